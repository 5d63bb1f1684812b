-- Reading and writing piece by piece.
use Rattle.std.proofs.Common.{◌≡◌, ℕ, ◌+◌, ◌-◌, List, ◌++◌, Option, IfOk, Result, Ok, Err, length, take, drop, sym, ap, subst, ◌∙◌, arith, take-add, take_all, drop_at, length-drop}
use lib.Seq.{take-append-le}
use Rattle.std.specs.Io.{ReadsAtMost}
use Rattle.std.specs.Io.KnownBytes.{Consumes, Appends, Keeps, ReadConsumes}
use Rattle.std.proofs.KnownBytes.{Consumes-trans, Appends-kept}
use Rattle.streams.specs.Streams.{WritesSome}

-- What was read into a part stands behind the front.
pub read_in_place : {E : Type 0} (a b : Option (List ℕ)) (r : Result ℕ E) (front part rest : List ℕ) (at : ℕ) → length front ≡ at → ReadsAtMost r part
    → ReadConsumes a b r part → IfOk r (λ n. Consumes a b (take n (drop at (front ++ (part ++ rest)))))
read_in_place a b (Ok n) front part rest at long fits read =
    subst (Consumes a b) (sym (ap (take n) (drop_at front (part ++ rest) at long) ∙ take-append-le n part rest fits.0)) read.0
read_in_place a b (Err e) front part rest at long fits read = tt

-- A read more behind what was read.
pub read_more : (a b c : Option (List ℕ)) (xs ys : List ℕ) (f n : ℕ) → take f ys ≡ take f xs → Consumes a b (take f xs) → Consumes b c (take n (drop f ys)) → Consumes a c (take (f + n) ys)
read_more a b c xs ys f n front before read =
    subst (Consumes a c) (ap (λ z. z ++ take n (drop f ys)) (sym front) ∙ sym (take-add f n ys)) (Consumes-trans a b c _ _ before read)

-- All from a place on.
pub slice_end : (bytes : List ℕ) (s : ℕ) → take (length bytes - s) (drop s bytes) ≡ drop s bytes
slice_end bytes s = let len = length-drop s bytes in take_all (length bytes - s) (drop s bytes) (omega arith)

-- What is written whole is a beginning of it, too.
pub some_of_whole : (a b c : Option (List ℕ)) (bytes : List ℕ) → Appends a b bytes → Keeps b c → WritesSome a c bytes
some_of_whole a b c bytes p q = record {
  count = length bytes;
  written = subst (Appends a c) (sym (take_all (length bytes) bytes (omega arith))) (Appends-kept a b c bytes p q);
}

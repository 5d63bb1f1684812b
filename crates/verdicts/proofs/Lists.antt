-- What the library says of lists, in the words of the order law.
use Rattle.std.proofs.Common.{◌≡◌, ℕ, ◌<◌, Bool, true, false, ◌||◌, eqb, List, [], ◌∷◌, length, get_or, take, drop, refl, ap, sym, subst, ◌∙◌, arith}
use Rattle.std.specs.Bool.{Decides, MatchBool}
use Rattle.std.specs.List.{AllWithin, HoldsAt, list_any, range_with_len}
use Rattle.std.specs.Cmp.Lexicographic.{pointwise}
use Rattle.std.proofs.lemmas.Bool.Decides.{Decides-eqb}
use Rattle.std.proofs.lemmas.List.FromFn.{get_or-range_with_len, length-range_with_len}
use Rattle.std.proofs.lemmas.Slice.Eq.{starts_is}
use Rattle.order.specs.Words.{among, Begins}

pub among_where_any : (r : Bool) (m : ℕ) (xs : List ℕ) → r ≡ list_any (λ x. eqb m x) xs → r ≡ among m xs
among_where_any r m xs e = e ∙ all xs
  where
    all : (ys : List ℕ) → list_any (λ x. eqb m x) ys ≡ among m ys
    all [] = refl
    all (y ∷ ys) = ap (λ t. eqb m y || t) (all ys)

pub begins_where_it_starts : (r : Bool) (l whole : List ℕ) → r ≡ pointwise eqb l (take (length l) whole) → Decides r (Begins l whole)
begins_where_it_starts r l whole e =
    let says = starts_is Decides-eqb whole l r e in
    (λ t. (drop (length l) whole, says.0 t), λ b. says.1 b.0 b.1)

-- A question that is asked of each number below n.
pub decides_below : (r : Bool) (P : ℕ → Type 0) (n : ℕ)
    → MatchBool r (AllWithin P (range_with_len 0 n) 0 (length (range_with_len 0 n))) ((k : ℕ) × (k < length (range_with_len 0 n)) × HoldsAt (λ x. P x → ⊥) (range_with_len 0 n) k)
    → Decides r ((p : ℕ) → p < n → P p)
decides_below true P n all = (
  λ t p l.
      let e : get_or (range_with_len 0 n) p 0 ≡ p = omega (arith, get_or-range_with_len 0 n p 0 l) in
      subst P e (all p 0 (omega arith) (omega (arith, length-range_with_len 0 n))),
  λ f. refl,
)
decides_below false P n one =
    let l : one.0 < n = omega (arith, length-range_with_len 0 n, one.1) in
    let e : get_or (range_with_len 0 n) one.0 0 ≡ one.0 = omega (arith, get_or-range_with_len 0 n one.0 0 l) in
    (λ t. absurd (cc), λ f. absurd (one.2 0 (subst P (sym e) (f one.0 l))))

-- Which notes a set holds, after each operation on its number.
use Rattle.std.proofs.Common.{◌≡◌, ℕ, zero, suc, ◌+◌, ◌-◌, ◌*◌, ◌/◌, ◌%◌, ◌^◌, ◌<◌, ◌≤◌, Bool, true, false, cond, not, ◌&&◌, ◌||◌, eqb, ltb, sym, refl, ap, ◌∙◌, ⊎_elim, pow-suc, one-add, arith, pow_pos, pow_mono, pow-add, shr-shr}
use native.Mathlib.Nat.{div-eq_of_lt, div_self}
use lib.Bits.{bit_and, bit_or, bit_xor, and_shr, and_step, or_shr, or_step, xor_shr, xor_add_and}
use lib.Count.{ones, ones_step, count_trailing_zeros, under}
use lib.Pow.{pow-lt, shl-shr}
use Rattle.std.proofs.lemmas.Bool.{cases_order, cases_Bool, ltb-true, ltb-false}
use Rattle.std.proofs.lemmas.Bool.Decides.{nat_tests}
use Rattle.notes.specs.Sets.{has, added, minus, how_many}
use Rattle.notes.proofs.Counting.{count_first, count_same}

-- No note in the empty set.
pub has_none : (m : ℕ) → has 0 m ≡ false
unfolding has
has_none m = let d : 0 / 2 ^ m ≡ 0 = div-eq_of_lt (pow_pos m) in grind (arith, nat_tests)

-- No note above the highest bit.
pub has_above : (k s m : ℕ) → s < 2 ^ k → k ≤ m → has s m ≡ false
unfolding has
has_above k s m h l =
    let p : 2 ^ k ≤ 2 ^ m = pow_mono l in
    let d : s / 2 ^ m ≡ 0 = div-eq_of_lt (omega arith) in
    grind (arith, nat_tests)

-- A bit within the width.
pub has_bit : (k s m : ℕ) → s < 2 ^ k → has s m ≡ (ltb m k && eqb (s / 2 ^ m % 2) 1)
unfolding has
has_bit k s m h =
    ⊎_elim
    (λ t. ap (λ b. b && eqb (s / 2 ^ m % 2) 1) (sym t))
    (λ t. has_above k s m h (ltb-false m k t) ∙ ap (λ b. b && eqb (s / 2 ^ m % 2) 1) (sym t))
    (cases_Bool (ltb m k))

pub has_union : (s t m : ℕ) → has (bit_or s t) m ≡ (has s m || has t m)
unfolding has
has_union s t m = rw (or_shr s t m) (let e = or_step (s / 2 ^ m) (t / 2 ^ m) in grind (arith, nat_tests, e))

has_both : (s t m : ℕ) → has (bit_and s t) m ≡ (has s m && has t m)
unfolding has
has_both s t m = rw (and_shr s t m) (let e = and_step (s / 2 ^ m) (t / 2 ^ m) in grind (arith, nat_tests, e))

-- What a note more adds.
high_bit : (m k : ℕ) → k < m → 2 ^ m / 2 ^ k % 2 ≡ 0
high_bit m k h =
    let j : ℕ = m - k - 1 in
    let e : m ≡ suc j + k = omega arith in
    let p : 2 ^ m ≡ 2 ^ suc j * 2 ^ k = ap (λ n. 2 ^ n) e ∙ pow-add 2 (suc j) k in
    let d : 2 ^ m / 2 ^ k ≡ 2 ^ suc j = ap (λ n. n / 2 ^ k) p ∙ shl-shr (2 ^ suc j) k in
    let s = pow-suc 2 j in omega arith

pub has_single : (m k : ℕ) → has (2 ^ m) k ≡ eqb k m
unfolding has
has_single m k =
    ⊎_elim
    (λ e. let d : 2 ^ m / 2 ^ k ≡ 1 = rw e (div_self (pow_pos m)) in grind (arith, nat_tests))
    (⊎_elim (λ h. let d = high_bit m k h in grind (arith, nat_tests)) (λ h. let d : 2 ^ m / 2 ^ k ≡ 0 = div-eq_of_lt (pow-lt h) in grind (arith, nat_tests)))
    (cases_order k m)

pub has_single_more : (s m k : ℕ) → has (bit_or s (2 ^ m)) k ≡ (has s k || eqb k m)
has_single_more s m k = has_union s (2 ^ m) k ∙ ap (λ b. has s k || b) (has_single m k)

pub has_added : (s m k : ℕ) → has (added s m) k ≡ (has s k || (ltb m 32 && eqb k m))
has_added s m k = let e = has_single_more s m k in grind (arith, nat_tests, e)

-- What is left without the notes of another set.
has_differ : (s t m : ℕ) → has (bit_xor s t) m ≡ cond (has s m) (not (has t m)) (has t m)
unfolding has
has_differ s t m = rw (xor_shr s t m) (let e = xor_add_and (s / 2 ^ m) (t / 2 ^ m) in grind (arith, nat_tests, e))

pub has_minus : (s t m : ℕ) → has (minus s t) m ≡ (has s m && not (has t m))
has_minus s t m = has_both s (bit_xor s t) m ∙ ap (λ b. has s m && b) (has_differ s t m) ∙ absorbed (has s m) (has t m)
  where
    absorbed : (a b : Bool) → (a && cond a (not b) b) ≡ (a && not b)
    absorbed true b = refl
    absorbed false b = refl

-- The bits of a number are its lowest bit and those of its half.
has_half : (s m : ℕ) → has (s / 2) m ≡ has s (suc m)
unfolding has
has_half s m = ap (λ z. eqb (z % 2) 1) (shr-shr s 1 m ∙ ap (λ k. s / 2 ^ k) (one-add m))

lowest_bit : (s : ℕ) → has s 0 ≡ eqb (s % 2) 1
unfolding has
lowest_bit s = let e : s / 1 ≡ s = omega arith in ap (λ z. eqb (z % 2) 1) e

-- A set is what it holds.
same_below : (k s t : ℕ) → s < 2 ^ k → t < 2 ^ k → ((m : ℕ) → has s m ≡ has t m) → s ≡ t
same_below zero s t hs ht h = omega arith
same_below (suc k) s t hs ht h =
    let p = pow-suc 2 k in
    let e : s / 2 ≡ t / 2 = same_below k (s / 2) (t / 2) (omega arith) (omega arith) (λ m. has_half s m ∙ h (suc m) ∙ sym (has_half t m)) in
    let b : eqb (s % 2) 1 ≡ eqb (t % 2) 1 = sym (lowest_bit s) ∙ h 0 ∙ lowest_bit t in
    grind (arith, nat_tests)

below_power : (n : ℕ) → n < 2 ^ n
below_power zero = omega arith
below_power (suc n) = let h = below_power n in let s = pow-suc 2 n in omega arith

pub same_sets : (s t : ℕ) → ((m : ℕ) → has s m ≡ has t m) → s ≡ t
same_sets s t h =
    let a = below_power s in
    let b = below_power t in
    let c : 2 ^ s ≤ 2 ^ (s + t) = pow_mono (omega arith) in
    let d : 2 ^ t ≤ 2 ^ (s + t) = pow_mono (omega arith) in
    same_below (s + t) s t (omega arith) (omega arith) h

-- The count of ones is the number of notes held.
pub ones_count : (k s : ℕ) → s < 2 ^ k → ones s ≡ how_many (has s) k
unfolding ones
ones_count zero s h = let z : s ≡ 0 = omega arith in ap ones z
ones_count (suc k) s h =
    let p = pow-suc 2 k in
    let e = ones_count k (s / 2) (omega arith) in
    let r = count_same (has (s / 2)) (λ m. has s (suc m)) k (has_half s) in
    let f = count_first (has s) k in
    let b = lowest_bit s in
    let o = ones_step s in
    grind (arith, nat_tests, e, r, f, b, o)

-- The number of trailing zeros is the lowest note.
abbrev pub Lowest : ℕ → ℕ → ℕ → Type 0
Lowest k s t = (t < k) × (has s t ≡ true) × ((m : ℕ) → m < t → has s m ≡ false)

even_lowest : (k s t : ℕ) → s % 2 ≡ 0 → Lowest k (s / 2) t → Lowest (suc k) s (suc t)
even_lowest k s t e r = (let l = r.0 in omega arith, sym (has_half s t) ∙ r.1, below)
  where
    below : (m : ℕ) → m < suc t → has s m ≡ false
    below zero l = lowest_bit s ∙ ap (λ b. eqb b 1) e
    below (suc m) l = sym (has_half s m) ∙ r.2 m (omega arith)

by_lowest_bit : (k s d t : ℕ) → s % 2 ≡ d → (d ≡ 0 → Lowest k (s / 2) t) → Lowest (suc k) s (under d t)
by_lowest_bit k s zero t e r = even_lowest k s t e (r refl)
by_lowest_bit k s (suc d) t e r = (omega arith, lowest_bit s ∙ grind (arith, nat_tests), λ m l. absurd (omega arith))

pub zeros_lowest : (k s : ℕ) → s < 2 ^ k → (s ≡ 0 → ⊥) → Lowest k s (count_trailing_zeros k s)
unfolding count_trailing_zeros
zeros_lowest zero s h n = absurd (omega arith)
zeros_lowest (suc k) s h n =
    let p = pow-suc 2 k in
    by_lowest_bit k s (s % 2) (count_trailing_zeros k (s / 2)) refl (λ e. zeros_lowest k (s / 2) (omega arith) (λ z. n (omega arith)))

-- What the methods of a set rest on.
pub has_note : (s m : ℕ) → s < 2 ^ 32 → has s m ≡ (ltb m 32 && eqb (s / 2 ^ m % 2) 1)
has_note s m h = has_bit 32 s m h

pub with_one_note : (s m k : ℕ) → m < 32 → has (bit_or s (1 * 2 ^ m % 4294967296)) k ≡ (has s k || eqb k m)
with_one_note s m k h =
    let p : 2 ^ m < 2 ^ 32 = pow-lt h in
    let e : 1 * 2 ^ m % 4294967296 ≡ 2 ^ m = omega arith in
    ap (λ t. has (bit_or s t) k) e ∙ has_single_more s m k

pub count_notes : (s : ℕ) → s < 2 ^ 32 → ones s ≡ how_many (has s) 32
count_notes s h = ones_count 32 s h

pub some_note : (s : ℕ) → s < 2 ^ 32 → (s ≡ 0 → ⊥) → (m : ℕ) × (has s m ≡ true)
some_note s h n = (count_trailing_zeros 32 s, (zeros_lowest 32 s h n).1)

pub lowest_note : (s : ℕ) → s < 2 ^ 32 → (s ≡ 0 → ⊥) → Lowest 32 s (count_trailing_zeros 32 s)
lowest_note s h n = zeros_lowest 32 s h n

-- The notes that a set of notes lacks.
has_not : (k t m : ℕ) → t < 2 ^ k → m < k → has (2 ^ k - 1 - t) m ≡ not (has t m)
has_not zero t m h l = absurd (omega arith)
has_not (suc k) t zero h l =
    let p = pow-suc 2 k in
    let a = lowest_bit (2 ^ suc k - 1 - t) in
    let b = lowest_bit t in
    let c : (2 ^ suc k - 1 - t) % 2 + t % 2 ≡ 1 = omega arith in
    grind (arith, nat_tests, a, b, c)
has_not (suc k) t (suc m) h l =
    let p = pow-suc 2 k in
    let e : (2 ^ suc k - 1 - t) / 2 ≡ 2 ^ k - 1 - t / 2 = omega arith in
    sym (has_half (2 ^ suc k - 1 - t) m) ∙ ap (λ s. has s m) e ∙ has_not k (t / 2) m (omega arith) (omega arith) ∙ ap not (has_half t m)

pub without_notes : (s t : ℕ) → s < 2 ^ 32 → t < 2 ^ 32 → bit_and s (4294967295 - t) ≡ minus s t
without_notes s t hs ht = same_sets _ _ (λ m. has_both s (4294967295 - t) m ∙ at m ∙ sym (has_minus s t m))
  where
    at : (m : ℕ) → (has s m && has (4294967295 - t) m) ≡ (has s m && not (has t m))
    at m =
        ⊎_elim
        (λ l. ap (λ b. has s m && b) (has_not 32 t m ht (ltb-true m 32 l)))
        (λ l. let e = has_above 32 s m hs (ltb-false m 32 l) in grind (arith, nat_tests, e))
        (cases_Bool (ltb m 32))

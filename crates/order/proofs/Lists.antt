-- Lists without repeats.
use Rattle.std.proofs.Common.{◌≡◌, ℕ, ◌<◌, ◌≤◌, true, false, cond, ◌||◌, eqb, ◌⊎◌, List, [], ◌∷◌, ◌++◌, length, sym, refl, ap, ◌∙◌, subst, inl, inr, arith}
use Rattle.std.proofs.Math.Bool.{or_assoc}
use Rattle.std.proofs.lemmas.Bool.{eq-eqb, ne_eqb, cases_Bool, or_parts, or_from, or_left, or_right, both_ways}
use Rattle.notes.specs.Sets.{total}
use Rattle.notes.proofs.Counting.{total_trade}
use Rattle.order.specs.Words.{among, NoneTwice}

pub among_append : (m : ℕ) (l r : List ℕ) → among m (l ++ r) ≡ (among m l || among m r)
among_append m [] r = refl
among_append m (x ∷ xs) r = ap (λ t. eqb m x || t) (among_append m xs r) ∙ sym (or_assoc (eqb m x) (among m xs) (among m r))

pub none_twice_append : (l r : List ℕ) → NoneTwice l → NoneTwice r → ((m : ℕ) → among m r ≡ true → among m l ≡ false) → NoneTwice (l ++ r)
none_twice_append [] r ol or apart = or
none_twice_append (x ∷ xs) r ol or apart = (
  among_append x xs r ∙ or_from (among x xs) (among x r) ol.0 (not_in (cases_Bool (among x r))),
  none_twice_append xs r ol.1 or (λ m h. (or_parts (eqb m x) (among m xs) (apart m h)).1),
)
  where
    not_in : (among x r ≡ true) ⊎ (among x r ≡ false) → among x r ≡ false
    not_in (inl t) = absurd (both_ways (eqb x x) (or_parts (eqb x x) (among x xs) (apart x t)).0 (eq-eqb x x refl))
    not_in (inr f) = f

-- A list without repeats whose notes are all below n and counted by f is no longer than the total of f.
pub pigeons : (l : List ℕ) (f : ℕ → ℕ) (n : ℕ) → NoneTwice l → ((m : ℕ) → among m l ≡ true → (m < n) × (1 ≤ f m)) → length l ≤ total f n
pigeons [] f n o h = omega arith
pigeons (x ∷ xs) f n o h =
    let there = h x (or_left (eqb x x) (among x xs) (eq-eqb x x refl)) in
    let rest = pigeons xs less n o.1 (λ m i. ((h m (or_right (eqb m x) (among m xs) i)).0, subst (λ v. 1 ≤ v) (sym (other m (apart m i))) (h m (or_right (eqb m x) (among m xs) i)).1)) in
    let bump = total_trade less f n x 1 0 there.0 (λ i _ ne. omega (arith, other i ne)) (omega (arith, there.1, none)) in
    omega (arith, rest, bump)
  where
    less : ℕ → ℕ
    less m = cond (eqb m x) 0 (f m)

    none : less x ≡ 0
    none = ap (λ t. cond t 0 (f x)) (eq-eqb x x refl)

    apart : (m : ℕ) → among m xs ≡ true → m ≡ x → ⊥
    apart m i e = both_ways (among x xs) o.0 (subst (λ y. among y xs ≡ true) e i)

    other : (m : ℕ) → (m ≡ x → ⊥) → less m ≡ f m
    other m ne = ap (λ t. cond t 0 (f m)) (ne_eqb m x ne)

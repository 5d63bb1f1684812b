-- Batches and waiting notes.
use Rattle.std.proofs.Common.{◌≡◌, ℕ, zero, suc, ◌+◌, ◌<◌, ◌≤◌, Bool, true, false, cond, ◌&&◌, ◌||◌, eqb, ◌⊎◌, List, [], ◌∷◌, length, get_or, filter, sym, refl, ap, ◌∙◌, subst, inl, inr, arith, length-append}
use Rattle.std.proofs.lemmas.Bool.{eqb-true, eq-eqb, lt-ltb, cases_Bool, or_cases, or_left, or_right, both_ways}
use Rattle.notes.specs.Sets.{has, added, how_many}
use Rattle.notes.proofs.Bits.{has_added}
use Rattle.logs.specs.Orders.{with_all}
use Rattle.logs.proofs.Batches.{passing}
use Rattle.order.specs.Words.{among, NoneTwice}
use Rattle.order.specs.Views.{Ranks}
use Rattle.order.proofs.Lists.{among_append, none_twice_append}

-- An order of the notes below its length, which is at most 32: each of them once.
pub record Listed (order : List ℕ) : Type 0 where
  pub few : length order ≤ 32
  pub all : (m : ℕ) → m < length order → among m order ≡ true
  pub once : NoneTwice order

pub among_at : (l : List ℕ) (k : ℕ) → k < length l → among (get_or l k 0) l ≡ true
among_at [] k h = absurd (omega arith)
among_at (x ∷ xs) zero h = or_left (eqb x x) (among x xs) (eq-eqb x x refl)
among_at (x ∷ xs) (suc k) h = or_right (eqb (get_or xs k 0) x) (among (get_or xs k 0) xs) (among_at xs k (omega arith))

at_among : (l : List ℕ) (m : ℕ) → among m l ≡ true → (k : ℕ) × (k < length l) × (get_or l k 0 ≡ m)
at_among [] m h = absurd (both_ways false refl h)
at_among (x ∷ xs) m h = elim (or_cases (eqb m x) (among m xs) h) [
  | inl e ↦ (0, omega arith, sym (eqb-true m x e))
  | inr i ↦ let r = at_among xs m i in (suc r.0, omega (arith, r.1), r.2)
]

pub apart_once : (l : List ℕ) → ((j k : ℕ) → j < length l → k < length l → get_or l j 0 ≡ get_or l k 0 → j ≡ k) → NoneTwice l
apart_once [] h = tt
apart_once (x ∷ xs) h = (out (cases_Bool (among x xs)), apart_once xs (λ j k lj lk e. let s = h (suc j) (suc k) (omega arith) (omega arith) e in omega arith))
  where
    out : (among x xs ≡ true) ⊎ (among x xs ≡ false) → among x xs ≡ false
    out (inl t) = let r = at_among xs x t in let s = h 0 (suc r.0) (omega arith) (omega (arith, r.1)) (sym r.2) in absurd (omega arith)
    out (inr f) = f

kept_sub : (test : ℕ → Bool) (l : List ℕ) (m : ℕ) → among m (filter test l) ≡ true → (among m l ≡ true) × (test m ≡ true)
kept_sub test [] m h = absurd (both_ways false refl h)
kept_sub test (x ∷ xs) m h = go (test x) refl h (kept_sub test xs m)
  where
    go : (t : Bool) → test x ≡ t → among m (cond t (x ∷ filter test xs) (filter test xs)) ≡ true
        → (among m (filter test xs) ≡ true → (among m xs ≡ true) × (test m ≡ true)) → ((eqb m x || among m xs) ≡ true) × (test m ≡ true)
    go true e h r = elim (or_cases (eqb m x) (among m (filter test xs)) h) [
      | inl f ↦ (or_left (eqb m x) (among m xs) f, subst (λ y. test y ≡ true) (sym (eqb-true m x f)) e)
      | inr f ↦ (or_right (eqb m x) (among m xs) (r f).0, (r f).1)
    ]
    go false e h r = (or_right (eqb m x) (among m xs) (r h).0, (r h).1)

kept_has : (test : ℕ → Bool) (l : List ℕ) (m : ℕ) → among m l ≡ true → test m ≡ true → among m (filter test l) ≡ true
kept_has test [] m h e = absurd (both_ways false refl h)
kept_has test (x ∷ xs) m h e = go (test x) refl (λ f. kept_has test xs m f e)
  where
    go : (t : Bool) → test x ≡ t → (among m xs ≡ true → among m (filter test xs) ≡ true) → among m (cond t (x ∷ filter test xs) (filter test xs)) ≡ true
    go true f r = elim (or_cases (eqb m x) (among m xs) h) [
      | inl g ↦ or_left (eqb m x) (among m (filter test xs)) g
      | inr g ↦ or_right (eqb m x) (among m (filter test xs)) (r g)
    ]
    go false f r = elim (or_cases (eqb m x) (among m xs) h) [
      | inl g ↦ absurd (both_ways (test x) f (subst (λ y. test y ≡ true) (eqb-true m x g) e))
      | inr g ↦ r g
    ]

kept_once : (test : ℕ → Bool) (l : List ℕ) → NoneTwice l → NoneTwice (filter test l)
kept_once test [] h = tt
kept_once test (x ∷ xs) h = go (test x) (kept_once test xs h.1)
  where
    out : (t : Bool) → among x (filter test xs) ≡ t → among x (filter test xs) ≡ false
    out true e = absurd (both_ways (among x xs) h.0 (kept_sub test xs x e).0)
    out false e = e

    go : (t : Bool) → NoneTwice (filter test xs) → NoneTwice (cond t (x ∷ filter test xs) (filter test xs))
    go true r = (out (among x (filter test xs)) refl, r)
    go false r = r

pub ranks : (order : List ℕ) → Listed order → Ranks (λ s. filter (has s) order) (length order)
ranks order L = record {
  members = λ s m h. (kept_sub (has s) order m h).1;
  covers = λ s m l h. kept_has (has s) order m (L.all m l) h;
  once = λ s. kept_once (has s) order L.once;
}

-- The notes of a set, upwards: as many as the set has, none twice.
pub passing_in : (f : ℕ → Bool) (n m : ℕ) → among m (passing f n) ≡ true → (m < n) × (f m ≡ true)
passing_in f zero m h = absurd (both_ways false refl h)
passing_in f (suc n) m h = elim (or_cases (among m (passing f n)) (among m (cond (f n) (n ∷ []) [])) (sym (among_append m (passing f n) (cond (f n) (n ∷ []) [])) ∙ h)) [
  | inl i ↦ let r = passing_in f n m i in (omega (arith, r.0), r.1)
  | inr i ↦ last (f n) refl i
]
  where
    last : (t : Bool) → f n ≡ t → among m (cond t (n ∷ []) []) ≡ true → (m < suc n) × (f m ≡ true)
    last true e i = elim (or_cases (eqb m n) false i) [
      | inl s ↦ let q = eqb-true m n s in (omega arith, ap f q ∙ e)
      | inr z ↦ absurd (both_ways false refl z)
    ]
    last false e i = absurd (both_ways false refl i)

pub passing_once : (f : ℕ → Bool) (n : ℕ) → NoneTwice (passing f n)
passing_once f zero = tt
passing_once f (suc n) = none_twice_append (passing f n) (cond (f n) (n ∷ []) []) (passing_once f n) (one (f n)) (λ m h. out m (inside (f n) m h) (cases_Bool (among m (passing f n))))
  where
    one : (t : Bool) → NoneTwice (cond t (n ∷ []) [])
    one true = (refl, tt)
    one false = tt

    inside : (t : Bool) (m : ℕ) → among m (cond t (n ∷ []) []) ≡ true → m ≡ n
    inside true m h = elim (or_cases (eqb m n) false h) [
      | inl s ↦ eqb-true m n s
      | inr z ↦ absurd (both_ways false refl z)
    ]
    inside false m h = absurd (both_ways false refl h)

    out : (m : ℕ) → m ≡ n → (among m (passing f n) ≡ true) ⊎ (among m (passing f n) ≡ false) → among m (passing f n) ≡ false
    out m e (inl t) = let r = passing_in f n m t in absurd (omega (arith, r.0))
    out m e (inr f) = f

pub length_passing : (f : ℕ → Bool) (n : ℕ) → length (passing f n) ≡ how_many f n
length_passing f zero = refl
length_passing f (suc n) = length-append (passing f n) (cond (f n) (n ∷ []) []) ∙ ap (λ k. k + length (cond (f n) (n ∷ []) [])) (length_passing f n) ∙ ap (λ k. how_many f n + k) (one (f n))
  where
    one : (t : Bool) → length (cond t (n ∷ []) []) ≡ cond t 1 0
    one true = refl
    one false = refl

-- The notes of a list, as a set.
pub has_with_all : (l : List ℕ) (s j : ℕ) → ((m : ℕ) → among m l ≡ true → m < 32) → has (with_all s l) j ≡ (has s j || among j l)
has_with_all [] s j h = or_none (has s j)
  where
    or_none : (a : Bool) → a ≡ (a || false)
    or_none true = refl
    or_none false = refl
has_with_all (m ∷ ms) s j h =
    let small = lt-ltb m 32 (h m (or_left (eqb m m) (among m ms) (eq-eqb m m refl))) in
    let a = has_with_all ms (added s m) j (λ x i. h x (or_right (eqb x m) (among x ms) i)) in
    let e = has_added s m j in
    a ∙ ap (λ t. t || among j ms) (e ∙ ap (λ t. has s j || (t && eqb j m)) small) ∙ assoc (has s j) (eqb j m) (among j ms)
  where
    assoc : (x y z : Bool) → ((x || y) || z) ≡ (x || (y || z))
    assoc true y z = refl
    assoc false y z = refl

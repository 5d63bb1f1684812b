-- The lowest number that passes a test.
use Rattle.std.proofs.Common.{◌≡◌, ℕ, zero, suc, ◌<◌, ◌≤◌, Bool, true, false, cond, ◌⊎◌, Some, None, Option, sym, refl, ap, ◌∙◌, inl, inr, arith}
use Rattle.std.proofs.lemmas.Bool.{cases_Bool, cases_eq, cond-true, cond-false}
use Rattle.logs.specs.Orders.{or_else, lowest_that}

-- None below m passes, and m does.
pub lowest_found : (f : ℕ → Bool) (n m : ℕ) → m < n → lowest_that f m ≡ None → f m ≡ true → lowest_that f n ≡ Some m
lowest_found f zero m l e h = absurd (omega arith)
lowest_found f (suc n) m l e h = elim (cases_eq n m) [
  | inl s ↦ ap (λ o. or_else o (cond (f n) (Some n) None)) (ap (lowest_that f) s ∙ e) ∙ cond-true (f n) (Some n) None (ap f s ∙ h) ∙ ap Some s
  | inr d ↦ ap (λ o. or_else o (cond (f n) (Some n) None)) (lowest_found f n m (omega arith) e h)
]

pub lowest_none : (f : ℕ → Bool) (n : ℕ) → lowest_that f n ≡ None → (k : ℕ) → k < n → f k ≡ false
lowest_none f zero e k l = absurd (omega arith)
lowest_none f (suc n) e k l = go (λ i b. lowest_none f n i k b) (lowest_that f n) refl e (f n) refl
  where
    go : (lowest_that f n ≡ None → k < n → f k ≡ false) → (o : Option ℕ) → lowest_that f n ≡ o → or_else o (cond (f n) (Some n) None) ≡ None → (t : Bool) → f n ≡ t → f k ≡ false
    go r (Some x) i e t h = let z : ◌≡◌ {A = ℕ} 0 1 = cc in absurd (omega arith)
    go r None i e true h = let y = cond-true (f n) (Some n) None h in let z : ◌≡◌ {A = ℕ} 0 1 = cc in absurd (omega arith)
    go r None i e false h = elim (cases_eq k n) [
      | inl s ↦ ap f s ∙ h
      | inr d ↦ r i (omega arith)
    ]

pub lowest_some : (f : ℕ → Bool) (n m : ℕ) → lowest_that f n ≡ Some m → (m < n) × (f m ≡ true)
lowest_some f zero m e = let z : ◌≡◌ {A = ℕ} 0 1 = cc in absurd (omega arith)
lowest_some f (suc n) m e = go (lowest_some f n m) (lowest_that f n) refl e (f n) refl
  where
    go : (lowest_that f n ≡ Some m → (m < n) × (f m ≡ true)) → (o : Option ℕ) → lowest_that f n ≡ o → or_else o (cond (f n) (Some n) None) ≡ Some m → (t : Bool) → f n ≡ t → (m < suc n) × (f m ≡ true)
    go r (Some x) i e t h = let w = r (i ∙ e) in (omega (arith, w.0), w.1)
    go r None i e true h = let y = cond-true (f n) (Some n) None h in let s : n ≡ m = cc in (omega arith, ap f (sym s) ∙ h)
    go r None i e false h = let y = cond-false (f n) (Some n) None h in let z : ◌≡◌ {A = ℕ} 0 1 = cc in absurd (omega arith)

-- Of numbers of which only m passes, m is found.
pub lowest_only : (f : ℕ → Bool) (n m : ℕ) → m < n → f m ≡ true → ((k : ℕ) → k < n → f k ≡ true → k ≡ m) → lowest_that f n ≡ Some m
lowest_only f n m l p only = lowest_found f n m l (none m (omega arith)) p
  where
    none : (j : ℕ) → j ≤ m → lowest_that f j ≡ None
    none zero h = refl
    none (suc j) h = ap (λ o. or_else o (cond (f j) (Some j) None)) (none j (omega arith)) ∙ cond-false (f j) (Some j) None (out (cases_Bool (f j)))
      where
        out : (f j ≡ true) ⊎ (f j ≡ false) → f j ≡ false
        out (inl t) = let s = only j (omega arith) t in absurd (omega arith)
        out (inr t) = t

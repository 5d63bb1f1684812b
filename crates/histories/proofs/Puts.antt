-- A function changed at one place, and a test that some number below n passes.
use Rattle.std.proofs.Common.{◌≡◌, ℕ, ◌<◌, Bool, true, eqb, Decides, refl, ap, ◌∙◌, subst}
use Rattle.std.proofs.lemmas.Bool.Decides.{Decides-below_or}
use Rattle.std.proofs.lemmas.Bool.{cond_both, cond-true, eqb-true, eqb-false, eq-eqb}
use Rattle.histories.specs.Moves.{put, any}

pub at_put : {A : Type 0} (f : ℕ → A) (p : ℕ) (v : A) (a : ℕ) (P : A → Type 0) → (a ≡ p → P v) → ((a ≡ p → ⊥) → P (f a)) → P (put f p v a)
at_put f p v a P x y = cond_both (eqb a p) v (f a) P (λ e. x (eqb-true a p e)) (λ e. y (eqb-false a p e))

-- The same at a place in a row.
pub at_row : {A : Type 0} (f : ℕ → ℕ → A) (p r : ℕ) (v : A) (a b : ℕ) (P : A → Type 0) → (a ≡ p → b ≡ r → P v) → (((a ≡ p) × (b ≡ r) → ⊥) → P (f a b)) → P (put f p (put (f p) r v) a b)
at_row f p r v a b P x y =
    at_put f p (put (f p) r v) a (λ g. P (g b))
    (λ e. at_put (f p) r v b P (λ d. x e d) (λ d. subst (λ c. P (f c b)) e (y (λ m. d m.1))))
    (λ d. y (λ m. d m.0))

pub put_same : {A : Type 0} (f : ℕ → A) (p : ℕ) (v : A) → put f p v p ≡ v
put_same f p v = cond-true (eqb p p) v (f p) (eq-eqb p p refl)

pub put_other : {A : Type 0} (f : ℕ → A) (p : ℕ) (v : A) (a : ℕ) → (a ≡ p → ⊥) → put f p v a ≡ f a
put_other f p v a d = at_put f p v a (λ w. w ≡ f a) (λ e. absurd (d e)) (λ _. refl)

pub row_same : {A : Type 0} (f : ℕ → ℕ → A) (p r : ℕ) (v : A) → put f p (put (f p) r v) p r ≡ v
row_same f p r v = ap (λ g. g r) (put_same f p (put (f p) r v)) ∙ put_same (f p) r v

pub row_other : {A : Type 0} (f : ℕ → ℕ → A) (p r : ℕ) (v : A) (a b : ℕ) → ((a ≡ p) × (b ≡ r) → ⊥) → put f p (put (f p) r v) a b ≡ f a b
row_other f p r v a b d = at_row f p r v a b (λ w. w ≡ f a b) (λ e i. absurd (d (e, i))) (λ _. refl)

pub any_decides : (test : ℕ → Bool) (n : ℕ) → Decides (any n test) ((k : ℕ) × (k < n) × (test k ≡ true))
any_decides test n = Decides-below_or test (λ k. test k ≡ true) (λ m. any m test) (λ k. (λ e. e, λ e. e)) refl (λ _. refl) n

-- Counting the cases that fail, one by one.
use Rattle.std.proofs.Common.{◌≡◌, ℕ, ◌+◌, List, [], ◌∷◌, ◌++◌, length, refl, subst, arith}
use Rattle.std.specs.List.{All}
use Rattle.std.proofs.Math.Seq.{take-append_seam}
use Rattle.std.proofs.lemmas.List.Elements.{All-nil, All-push, All-take, All-contains, Contains-push}
use Rattle.verdicts.specs.Counts.{Failing}
use Rattle.verdicts.specs.Counts.Failing.{none, one_passed, one_failed}

pub one_more_passes : {A : Type 0} (P : A → Type 0) (cases : List A) (failures : ℕ) (case : A) → Failing P cases failures → P case → Failing P (cases ++ case ∷ []) failures
one_more_passes P cases failures case f p = one_passed f p

pub one_more_fails : {A : Type 0} (P : A → Type 0) (cases : List A) (failures : ℕ) (case : A) → Failing P cases failures → (P case → ⊥) → Failing P (cases ++ case ∷ []) (failures + 1)
one_more_fails P cases failures case f fails = one_failed f fails

pub all_pass : {A : Type 0} (P : A → Type 0) {cases : List A} {failures : ℕ} → Failing P cases failures → failures ≡ 0 → All P cases
all_pass P none e = All-nil P
all_pass P (one_passed {cases} {failures} {case} f p) e = All-push P cases case (all_pass P f e) p
all_pass P (one_failed f fails) e = absurd (omega arith)

pub none_fails : {A : Type 0} (P : A → Type 0) {cases : List A} {failures : ℕ} → Failing P cases failures → All P cases → failures ≡ 0
none_fails P none a = refl
none_fails P (one_passed {cases} {failures} {case} f p) a =
    none_fails P f (subst (All P) (take-append_seam cases (case ∷ [])) (All-take P (length cases) (cases ++ case ∷ []) a))
none_fails P (one_failed {cases} {failures} {case} f fails) a = absurd (fails (All-contains P (cases ++ case ∷ []) case a (Contains-push cases case)))

-- Counting the cases that fail.
use Rattle.std.specs.Prelude.{ℕ, ◌+◌, List, [], ◌∷◌, ◌++◌}

-- So many of the cases fail.
pub data Failing {A : Type 0} (Passes : A → Type 0) : List A → ℕ → Type 0 where
  none : Failing Passes [] 0
  one_passed : {cases : List A} {failures : ℕ} {case : A} → Failing Passes cases failures → Passes case → Failing Passes (cases ++ case ∷ []) failures
  one_failed : {cases : List A} {failures : ℕ} {case : A} → Failing Passes cases failures → (Passes case → ⊥) → Failing Passes (cases ++ case ∷ []) (failures + 1)

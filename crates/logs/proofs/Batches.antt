-- Batches.
use Rattle.std.proofs.Common.{◌≡◌, ℕ, zero, suc, Bool, cond, List, [], ◌∷◌, ◌++◌, refl}
use Rattle.notes.specs.Sets.{added}
use Rattle.logs.specs.Orders.{with_all}

-- The numbers below n that pass a test, upwards.
abbrev pub passing : (ℕ → Bool) → ℕ → List ℕ
passing f zero = []
passing f (suc n) = passing f n ++ cond (f n) (n ∷ []) []

-- One note more.
pub with_all_more : (s : ℕ) (ms : List ℕ) (m : ℕ) → with_all s (ms ++ m ∷ []) ≡ added (with_all s ms) m
with_all_more s [] m = refl
with_all_more s (x ∷ ms) m = with_all_more (added s x) ms m

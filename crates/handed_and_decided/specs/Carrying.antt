-- Item 0 is carried as long as there is one, at most k times.
use Rattle.std.specs.Prelude.{ℕ, zero, suc, cond, List, length, nat_lt}

abbrev pub carried_all : {S : Type 0} → (S → List ℕ) → (S → ℕ → S) → ℕ → S → S
carried_all wire carrying zero s = s
carried_all wire carrying (suc k) s = cond (nat_lt 0 (length (wire s))) (carried_all wire carrying k (carrying s 0)) s

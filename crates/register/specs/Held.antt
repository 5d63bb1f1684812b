-- The register of each instance.
use Rattle.std.specs.Prelude.{ℕ, cond, List, is_some, None, Option, slice_index_or, slice_set}

abbrev pub held_in : List (Option ℕ) → ℕ → Option ℕ
held_in t k = slice_index_or t k None

-- A register that holds something keeps it.
abbrev pub filled : List (Option ℕ) → ℕ → Option ℕ → List (Option ℕ)
filled t k o = cond (is_some (held_in t k)) t (slice_set t k o)

-- Whom each card has counted as a relayer, and of which notes.
use Rattle.std.specs.Prelude.{ℕ, List, [], replicate, slice_index, slice_index_or, slice_set}
use Rattle.notes.specs.Sets.{added}

abbrev pub new_counts : List (List ℕ)
new_counts = replicate 6 (replicate 6 0)

-- The notes of which card p has counted card q.
abbrev pub counted_in : List (List ℕ) → ℕ → ℕ → ℕ
counted_in t p q = slice_index (slice_index_or t p []) q

abbrev pub with_counted : List (List ℕ) → ℕ → ℕ → ℕ → List (List ℕ)
with_counted t p q s = slice_set t p (slice_set (slice_index_or t p []) q s)

-- Card p counts card q as a relayer of note m.
abbrev pub with_count : List (List ℕ) → ℕ → ℕ → ℕ → List (List ℕ)
with_count t p q m = with_counted t p q (added (counted_in t p q) m)

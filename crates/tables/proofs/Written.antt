-- A table of six cards in each of 32 instances: what is read after a write, and its shape.
use Rattle.std.proofs.Common.{◌≡◌, ℕ, ◌<◌, true, cond, ◌&&◌, ◌==◌, List, [], replicate, slice_index_or, slice_set, is_some, Option, None, refl, sym, ap, ◌∙◌, ⊎_elim, arith, length-set}
use borrow.Author.Tests.{clash}
use Rattle.std.proofs.lemmas.List.{get_or_past}
use Rattle.std.proofs.lemmas.Bool.{cases_lt}
use Rattle.parts.proofs.Lists.{new_row, row_written, rows_kept}
use Rattle.tables.specs.Tables.{Shaped, ballot_in}

pub new_shaped : {X : Type 0} (d : X) → Shaped (replicate 32 (replicate 6 d))
new_shaped d = record { instances = refl; row = λ k h. new_row 32 k (replicate 6 d) h }

pub shaped_after : {X : Type 0} (t : List (List X)) (k q : ℕ) (v : X) → Shaped t → k < 32 → Shaped (slice_set t k (slice_set (slice_index_or t k []) q v))
shaped_after t k q v g hk = record { instances = simp length-set g.instances; row = rows_kept t 32 6 k q v (omega (arith, g.instances)) g.row }

pub place_written : {X : Type 0} (t : List (List X)) (k q j p : ℕ) (v d : X) → Shaped t → k < 32 → q < 6
    → slice_index_or (slice_index_or (slice_set t k (slice_set (slice_index_or t k []) q v)) j []) p d ≡ cond (j == k && p == q) v (slice_index_or (slice_index_or t j []) p d)
place_written t k q j p v d g hk hq = row_written t k q j p v d (omega (arith, g.instances)) (omega (arith, g.row k hk))

-- An instance in which something stands is one of the 32.
pub instance_below : (t : List (List (Option ℕ))) (k p : ℕ) → Shaped t → is_some (ballot_in t k p) ≡ true → k < 32
instance_below t k p g h = ⊎_elim (λ l. l) (λ l. absurd (clash (sym (ap (λ r. is_some (slice_index_or {A = Option ℕ} r p None)) (get_or_past t k [] (omega (arith, g.instances)))) ∙ h))) (cases_lt k 32)

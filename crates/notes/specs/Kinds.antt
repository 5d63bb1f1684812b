-- Which note may stand before which.
use Rattle.std.specs.Prelude.{ℕ, Bool, ◌&&◌, ◌||◌, ◌==◌, nat_le, nat_lt}
pub use Rattle.labels.specs.Order.{is_label, label_before}

-- Wear notes go by block, then by erase count.
abbrev pub wear_before : ℕ → ℕ → ℕ → ℕ → Bool
wear_before block erases block' erases' = nat_lt block block' || (block == block' && nat_le erases erases')

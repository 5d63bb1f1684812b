-- Counting cards and notes together.
use Rattle.std.specs.Prelude.{ℕ, Bool, not, List}
use Rattle.notes.specs.Sets.{has, how_many, total}
use Rattle.tables.specs.Tables.{set_in}

-- How many pairs of a card below n and a note below k pass a test.
abbrev pub pairs : (ℕ → ℕ → Bool) → ℕ → ℕ → ℕ
pairs f n k = total (λ p. how_many (f p) k) n

-- How often some card may still relay some note.
unfoldable pub unrelayed : List ℕ → ℕ
unrelayed sets = pairs (λ p m. not (has (set_in sets p) m)) 6 32

-- Which line says which note.
use Rattle.std.specs.Prelude.{ℕ, List, Some, Option}
use Rattle.notes.specs.declared.wear.Wear.{Wear}
use Rattle.text.specs.Parts.{Span}
use Rattle.text.specs.Fields.{Cut, cut_fields, read_uncut, number_in, label_in}
use Rattle.entries.specs.Chains.{bind, of_two}

-- a block and an erase count, each of up to 32 bits
abbrev pub wear_from : List Cut → Option Wear
wear_from = of_two (λ a b. bind (number_in 4294967295 a) (λ m. bind (number_in 4294967295 b) (λ n. Some (record { block = m; erases = n }))))

abbrev pub wear_of : Span → Option Wear
wear_of line = bind (cut_fields 4 line) wear_from

-- a label is its whole line
abbrev pub label_at : Span → Option (List ℕ × ℕ)
label_at line = label_in (read_uncut line)

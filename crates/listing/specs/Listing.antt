-- The listing of a schedule file: its notes in ranking order.
use Rattle.std.specs.Prelude.{ℕ, ◌+◌, Bool, List, [], ◌∷◌, map, codes, decimal, slice_index_or, Ok, Err, Result}
use Rattle.labels.specs.Order.{label_before}
use Rattle.notes.specs.contracts.wear.WearKind.TheImpl.{ghosts as wear_kind}
use Rattle.text.specs.Written.{spaced}
use Rattle.entries.specs.Written.{wear_text, label_text, written_lines}
use Rattle.faults.specs.Faults.{fault_text}
use Rattle.faults.specs.declared.FileFault.{FileFault}
use Rattle.reader.specs.Sections.{Noted, wears, labels}
use Rattle.reader.specs.Files.{Whole, schedule_of}
use Rattle.logs.specs.Orders.{in_ranking_order}

-- Labels as they were read, each with its place: by their bytes.
abbrev pub bytes_before : List ℕ × ℕ → List ℕ × ℕ → Bool
bytes_before a b = label_before a.0 b.0

-- The numbers of a file's notes in ranking order.
abbrev pub ranked_notes : Noted → List ℕ
ranked_notes (wears ws) = in_ranking_order wear_kind.precedes ws
ranked_notes (labels ls) = in_ranking_order bytes_before ls

-- Each note as it is written, by its number.
abbrev pub note_texts : Noted → List (List ℕ)
note_texts (wears ws) = map wear_text ws
note_texts (labels ls) = map (λ l. label_text l.0) ls

-- A line is its words: of a note its place in the ranking, its number, and the note as it is written.
abbrev pub note_line : List (List ℕ) → ℕ → ℕ → List (List ℕ)
note_line texts place number = decimal place ∷ decimal number ∷ slice_index_or texts number [] ∷ []

-- One for each note, of notes that stand in this order, from a place on.
abbrev pub note_lines : List (List ℕ) → ℕ → List ℕ → List (List (List ℕ))
note_lines texts place [] = []
note_lines texts place (number ∷ order) = note_line texts place number ∷ note_lines texts (place + 1) order

-- The line of a file that does not read.
abbrev pub fault_line : FileFault → List (List ℕ)
fault_line f = codes "bad" ∷ fault_text f ∷ []

abbrev pub listing_from : Result Whole FileFault → List ℕ
listing_from (Ok s) = written_lines spaced (note_lines (note_texts s.notes) 0 (ranked_notes s.notes))
listing_from (Err f) = written_lines spaced (fault_line f ∷ [])

-- The listing of a file.
abbrev pub listing_of : List ℕ → List ℕ
listing_of file = listing_from (schedule_of file)

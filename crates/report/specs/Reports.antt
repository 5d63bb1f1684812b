-- The report of a schedule file.
use Rattle.std.specs.Prelude.{ℕ, List, [], ◌∷◌, map, length, Ok, Err, Result}
use Rattle.faults.specs.declared.FileFault.{FileFault}
use Rattle.reader.specs.Sections.{Noted, wears, labels}
use Rattle.reader.specs.Files.{Whole, schedule_of}
use Rattle.listing.specs.Listing.{ranked_notes, fault_line}
use Rattle.total_order.specs.Carrying.{cards_of}
use Rattle.event_calls.specs.Calls.{call_of}
use Rattle.run_report.specs.Lines.{lines_text}
use Rattle.report.specs.Stacks.{over_pile}

abbrev pub how_many_notes : Noted → ℕ
how_many_notes (wears ws) = length ws
how_many_notes (labels ls) = length ls

abbrev pub schedule_report : Whole → List ℕ
schedule_report s = over_pile (cards_of s.contents.cards (how_many_notes s.notes)) (ranked_notes s.notes) (map call_of s.events) s.contents.pile

-- Of a file with a fault, the fault alone.
abbrev pub report_from : Result Whole FileFault → List ℕ
report_from (Ok s) = schedule_report s
report_from (Err f) = lines_text (fault_line f ∷ [])

-- The report of a file.
abbrev pub report_of : List ℕ → List ℕ
report_of file = report_from (schedule_of file)

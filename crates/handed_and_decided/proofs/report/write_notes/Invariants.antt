use Rattle.std.proofs.Common.{◌≡◌, ◌++◌, string_bytes}
use Rattle.handed_and_decided.specs.Lines.{texts_below, note_text}
use Rattle.handed_and_decided.proofs.report.write_notes.Given as goal

abbrev pub invariant-loop-note : goal.invariant-loop-note
invariant-loop-note l = string_bytes l.out ≡ string_bytes l.initial.out ++ texts_below (note_text l.notes) l.note

use Rattle.std.proofs.Common.{◌≡◌, ◌++◌, map, drop, string_bytes, decimal}
use Rattle.text.specs.Written.{spaced_after}
use Rattle.run_report.proofs.lines.write_notes.Given as goal

abbrev pub invariant-loop-note : goal.invariant-loop-note
invariant-loop-note l = string_bytes l.out ++ spaced_after (map decimal (drop l.note-index l.log)) ≡ string_bytes l.initial.out ++ spaced_after (map decimal l.log)

use Rattle.std.proofs.Common.{◌≡◌, ◌++◌, drop, string_bytes}
use Rattle.run_report.specs.Lines.{lines_text, refusal_lines}
use Rattle.run_report.proofs.lines.write_refusals.Given as goal

abbrev pub invariant-loop-event : goal.invariant-loop-event
invariant-loop-event l = string_bytes l.out ++ lines_text (refusal_lines l.event (drop l.event l.answers)) ≡ string_bytes l.initial.out ++ lines_text (refusal_lines 0 l.answers)

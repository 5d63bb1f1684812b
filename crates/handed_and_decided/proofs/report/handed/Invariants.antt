use Rattle.std.proofs.Common.{◌≡◌, string_bytes}
use Rattle.handed_and_decided.specs.Lines.{handed_lines}
use Rattle.handed_and_decided.proofs.report.handed.Given as goal

abbrev pub invariant-loop-card : goal.invariant-loop-card
invariant-loop-card g l = string_bytes l.out ≡ handed_lines g.B.Broadcast (g.B.Broadcast.state l.broadcast) l.card

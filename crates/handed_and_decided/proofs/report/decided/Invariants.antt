use Rattle.std.proofs.Common.{◌≡◌, string_bytes}
use Rattle.handed_and_decided.specs.Lines.{decided_lines}
use Rattle.handed_and_decided.proofs.report.decided.Given as goal

abbrev pub invariant-loop-card : goal.invariant-loop-card
invariant-loop-card g l = string_bytes l.out ≡ decided_lines g.C.Consensus (g.C.Consensus.state l.consensus) l.instance l.card

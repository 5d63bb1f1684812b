use Rattle.std.proofs.Common.{◌≡◌}
use Rattle.allack.specs.AllAck.{complete}
use Rattle.allack.proofs.state.AllAck.complete.Given as goal

abbrev pub invariant-loop-other : goal.invariant-loop-other
invariant-loop-other l = l.notes ≡ complete l.self l.card l.other

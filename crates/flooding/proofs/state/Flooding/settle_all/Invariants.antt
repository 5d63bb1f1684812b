use Rattle.std.proofs.Common.{◌≡◌}
use Rattle.flooding.specs.Flooding.{through_on}
use Rattle.flooding.proofs.state.Flooding.settle_all.Given as goal

abbrev pub invariant-loop-instance : goal.invariant-loop-instance
invariant-loop-instance l = l.self ≡ through_on l.initial.self l.card l.instance

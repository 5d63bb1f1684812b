use Rattle.std.proofs.Common.{◌≡◌}
use Rattle.flooding.specs.Flooding.{steps_on}
use Rattle.flooding.proofs.state.Flooding.settle.Given as goal

abbrev pub invariant-loop-turn : goal.invariant-loop-turn
invariant-loop-turn l = l.self ≡ steps_on l.initial.self l.place.instance l.place.card l._turn

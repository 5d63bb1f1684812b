use Rattle.std.proofs.Common.{◌≡◌, ◌-◌}
use Rattle.handed_and_decided.specs.Carrying.{carried_all}
use Rattle.handed_and_decided.proofs.carrying.carry_all.Given as goal

abbrev pub invariant-loop-turn : goal.invariant-loop-turn
invariant-loop-turn g l =
    carried_all g.B.Broadcast.wire g.B.Broadcast.carrying (l.limit - l._turn) (g.B.Broadcast.state l.broadcast) ≡ carried_all g.B.Broadcast.wire g.B.Broadcast.carrying l.limit (g.B.Broadcast.state l.initial.broadcast)

use Rattle.std.proofs.Common.{◌≡◌, ◌-◌}
use Rattle.handed_and_decided.specs.Carrying.{carried_all}
use Rattle.handed_and_decided.proofs.carrying.carry_all_proposals.Given as goal

abbrev pub invariant-loop-turn : goal.invariant-loop-turn
invariant-loop-turn g l =
    carried_all g.C.Consensus.wire g.C.Consensus.carrying (l.limit - l._turn) (g.C.Consensus.state l.consensus) ≡ carried_all g.C.Consensus.wire g.C.Consensus.carrying l.limit (g.C.Consensus.state l.initial.consensus)

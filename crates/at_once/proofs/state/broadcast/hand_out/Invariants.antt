use Rattle.std.proofs.Common.{◌≡◌}
use Rattle.at_once.specs.AtOnce.{hand_out}
use Rattle.at_once.proofs.state.broadcast.hand_out.Given as goal

abbrev pub invariant-loop-card : goal.invariant-loop-card
invariant-loop-card l = l.handed ≡ hand_out l.cards l.note l.initial.handed l.card

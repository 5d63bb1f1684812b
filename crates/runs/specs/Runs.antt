-- A list of calls on a carrier: what it leaves, and what it answers.
use Rattle.std.specs.Prelude.{List, [], ◌∷◌}
use Rattle.parts.specs.declared.broadcast.Broadcast.{Ghosts as Broadcasts}
use Rattle.parts.specs.declared.consensus.Consensus.{Ghosts as Consensuses}
use Rattle.total_order.specs.Carrying.{Carrying}
use Rattle.total_order.specs.Calls.{Answer, calling}
use Rattle.total_order.specs.declared.call.Call.{Call}

module _ {X Y : Type 0} (b : Broadcasts X) (c : Consensuses Y) where
  unfoldable pub left_by : Carrying b c → List Call → Carrying b c
  left_by s [] = s
  left_by s (k ∷ ks) = left_by (calling b c s k).leaves ks

  unfoldable pub answers_to : Carrying b c → List Call → List Answer
  answers_to s [] = []
  answers_to s (k ∷ ks) = (calling b c s k).tells ∷ answers_to (calling b c s k).leaves ks

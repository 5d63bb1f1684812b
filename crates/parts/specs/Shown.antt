-- What a state shows, for any broadcast and any consensus.
use Rattle.parts.specs.Views.{BroadcastView, ConsensusView}
use Rattle.parts.specs.Broadcasting.{broadcast_view}
use Rattle.parts.specs.Deciding.{consensus_view}
use Rattle.parts.specs.declared.broadcast.Broadcast.{Ghosts as Broadcasts}
use Rattle.parts.specs.declared.consensus.Consensus.{Ghosts as Consensuses}

abbrev pub shown : {X : Type 0} (b : Broadcasts X) → b.State → BroadcastView
shown b = broadcast_view b.cards b.crashed b.suspects b.wire b.work b.poster b.handed

abbrev pub told : {X : Type 0} (c : Consensuses X) → c.State → ConsensusView
told c = consensus_view c.cards c.crashed c.suspects c.wire c.work c.proposal c.decision

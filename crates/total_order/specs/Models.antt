-- What the carrier of the code stands for.
use Rattle.std.specs.Prelude.{map}
use Rattle.parts.specs.declared.broadcast.Broadcast.{Ghosts as Broadcasts}
use Rattle.parts.specs.declared.consensus.Consensus.{Ghosts as Consensuses}
use Rattle.total_order.specs.Carrying.{Carrying}
use Rattle.total_order.specs.declared.carrier.Carrier.{Carrier}
use Rattle.total_order.specs.declared.carrier.Progress.{Progress}

-- It is no Model of the carrier: its `Value` could not be made of the states of the broadcast and of the consensus.
abbrev pub model : {X Y : Type 0} (b : Broadcasts X) (c : Consensuses Y) → Carrier X Y → Carrying b c
model b c k = record {
  broadcast = b.state k.broadcast;
  consensus = c.state k.consensus;
  order = k.ranking;
  logs = map (λ (p : Progress). p.log) k.cards;
  instances = map (λ (p : Progress). p.instance) k.cards;
  steps = k.steps;
}

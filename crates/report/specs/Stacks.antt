-- The report over the stack that a pile names.
use Rattle.std.specs.Prelude.{ℕ, Bool, true, false, List}
use Rattle.std.specs.Borrow.{RattleType}
use mir.Syntax.{Dict}
use Rattle.parts.specs.declared.broadcast.Broadcast.{Ghosts as Broadcasts}
use Rattle.parts.specs.declared.consensus.Consensus.{Ghosts as Consensuses}
use Rattle.relay.specs.contracts.state.Relay.{the_row as RelayType}
use Rattle.relay.specs.contracts.state.broadcast.RelayBroadcast.TheImpl.{ghosts as relay, dict as relay_dict}
use Rattle.allack.specs.contracts.state.AllAck.{the_row as AllAckType}
use Rattle.allack.specs.contracts.state.broadcast.AllAckBroadcast.TheImpl.{ghosts as all_ack, dict as all_ack_dict}
use Rattle.board.specs.contracts.state.Board.{the_row as BoardType}
use Rattle.board.specs.contracts.state.broadcast.BoardBroadcast.TheImpl.{ghosts as board, dict as board_dict}
use Rattle.inturn.specs.contracts.layer.InTurnBroadcast.TheImpl.{ghosts as in_turn}
use Rattle.flooding.specs.contracts.state.consensus.FloodingConsensus.TheImpl.{ghosts as flooding}
use Rattle.register.specs.contracts.state.consensus.RegisterConsensus.TheImpl.{ghosts as register}
use Rattle.schedule.specs.declared.contents.BroadcastPart.{BroadcastPart}
use Rattle.schedule.specs.declared.contents.BroadcastPart.TheVariants.{Relay, AllAck, Board}
use Rattle.schedule.specs.declared.contents.ConsensusPart.{ConsensusPart}
use Rattle.schedule.specs.declared.contents.ConsensusPart.TheVariants.{Flood, Register}
use Rattle.schedule.specs.declared.contents.Pile.{Pile}
use Rattle.total_order.specs.declared.call.Call.{Call}
use Rattle.run_report.specs.Reports.{report_over}

-- Of so many cards, a book whose notes have this ranking order, and these calls.
module _ (cards : ℕ) (order : List ℕ) (calls : List Call) where
  module _ {Y : Type 0} (consensus : Consensuses Y) where
    -- Over a broadcast, under the in-turn layer or alone.
    abbrev over_layer : Bool → (T : RattleType) → Broadcasts T.Denot → Dict → List ℕ
    over_layer true T broadcast dict = report_over (in_turn T broadcast dict) consensus cards order calls
    over_layer false T broadcast dict = report_over broadcast consensus cards order calls

    abbrev pub over_broadcast : Bool → BroadcastPart → List ℕ
    over_broadcast turn Relay = over_layer turn RelayType relay relay_dict
    over_broadcast turn AllAck = over_layer turn AllAckType all_ack all_ack_dict
    over_broadcast turn Board = over_layer turn BoardType board board_dict

  abbrev pub over_parts : Bool → BroadcastPart → ConsensusPart → List ℕ
  over_parts turn broadcast Register = over_broadcast register turn broadcast
  over_parts turn broadcast Flood = over_broadcast flooding turn broadcast

  abbrev pub over_pile : Pile → List ℕ
  over_pile pile = over_parts pile.in_turn pile.broadcast pile.consensus

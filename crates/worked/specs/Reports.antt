-- What a run comes to.
use Rattle.std.specs.Prelude.{ℕ, Bool, List, map, Ok, Err}
use Rattle.std.specs.List.{range_with_len}
use Rattle.parts.specs.declared.broadcast.Broadcast.{Ghosts as Broadcasts}
use Rattle.parts.specs.declared.consensus.Consensus.{Ghosts as Consensuses}
use Rattle.total_order.specs.Carrying.{Carrying, card_count, log_at, at_rest}
use Rattle.parts.specs.Refusals.{number}
use Rattle.total_order.specs.Calls.{Answer}
use Rattle.total_order.specs.declared.call.Call.{Call}
use Rattle.runs.specs.Scripts.{new_carrier}
use Rattle.runs.specs.Runs.{left_by, answers_to}

abbrev pub refused_by : Answer → ℕ
refused_by (Ok _) = 0
refused_by (Err e) = number e

-- By which number each call was refused, 0 where it was accepted; the log of each card; the steps; and whether the carrier is at rest.
pub record Report : Type 0 where
  pub refusals : List ℕ
  pub logs : List (List ℕ)
  pub steps : ℕ
  pub rest : Bool

module _ {X Y : Type 0} (b : Broadcasts X) (c : Consensuses Y) where
  abbrev pub report_on : Carrying b c → List Call → Carrying b c → Report
  report_on s calls end = record {
    refusals = map refused_by (answers_to b c s calls);
    logs = map (log_at b c end) (range_with_len 0 (card_count b c end));
    steps = end.steps;
    rest = at_rest b c end;
  }

  -- What the calls come to on that carrier.
  abbrev pub report : {K : Type 0} → (K → K → Bool) → ℕ → List K → List Call → Report
  report precedes cards book calls =
      report_on (new_carrier b c precedes cards book) calls (left_by b c (new_carrier b c precedes cards book) calls)

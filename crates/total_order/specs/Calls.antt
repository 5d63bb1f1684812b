-- A call as a value, and its answer.
use Rattle.std.specs.Prelude.{Ok, Err, Result, Some, None, Option}
use Rattle.parts.specs.declared.refusal.Refusal.{Refusal}
use Rattle.parts.specs.declared.broadcast.Broadcast.{Ghosts as Broadcasts}
use Rattle.parts.specs.declared.consensus.Consensus.{Ghosts as Consensuses}
use Rattle.total_order.specs.Carrying.{Carrying, Reply, posting, carrying, losing, crashing, suspecting, proposing, taking, settled, settle_steps, at_rest}
use Rattle.total_order.specs.declared.call.Settling.{Settling}
use Rattle.total_order.specs.declared.call.Call.{Call}
use Rattle.total_order.specs.declared.call.Call.TheVariants.{Post, Carry, Lose, Crash, Suspect, Propose, Take, Settle}

-- A settle tells what it came to; any other call only whether it is accepted.
abbrev pub Answer : Type 0
Answer = Result (Option Settling) Refusal

abbrev pub told_by : Result Unit Refusal → Answer
told_by (Ok x) = Ok None
told_by (Err e) = Err e

module _ {X Y : Type 0} (b : Broadcasts X) (c : Consensuses Y) where
  -- What a call tells and leaves.
  pub record Outcome : Type 0 where
    pub tells : Answer
    pub leaves : Carrying b c

  abbrev pub outcome : Reply b c → Outcome
  outcome r = record { tells = told_by r.answer; leaves = r.next }

  unfoldable pub calling : Carrying b c → Call → Outcome
  calling s (Post p m) = outcome (posting b c s p m)
  calling s (Carry w i) = outcome (carrying b c s w i)
  calling s (Lose w i) = outcome (losing b c s w i)
  calling s (Crash p) = outcome (crashing b c s p)
  calling s (Suspect q p) = outcome (suspecting b c s q p)
  calling s (Propose p) = outcome (proposing b c s p)
  calling s (Take p) = outcome (taking b c s p)
  calling s (Settle limit) = record {
    tells = Ok (Some (record { steps = settle_steps b c limit s; at_rest = at_rest b c (settled b c limit s) }));
    leaves = settled b c limit s;
  }

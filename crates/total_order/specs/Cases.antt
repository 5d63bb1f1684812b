-- The answers of a carrier by cases, each with its number and its values; and which case the rule gives, in plain numbers.
use Rattle.std.specs.Prelude.{ℕ, Bool, cond, not, List, [], ◌∷◌, length, is_none, Some, None, Ok, Err, nat_lt}
use Rattle.parts.specs.Refusals.{number}
use Rattle.parts.specs.Cases.{Case, turned_down_by, post_reasons, carry_reasons, lose_reasons, crash_reasons, suspect_reasons, propose_reasons}
use Rattle.parts.specs.Shown.{shown, told}
use Rattle.parts.specs.declared.broadcast.Broadcast.{Ghosts as Broadcasts}
use Rattle.parts.specs.declared.consensus.Consensus.{Ghosts as Consensuses}
use Rattle.parts.specs.declared.wires.Wire.{Wire}
use Rattle.parts.specs.declared.wires.Wire.TheVariants.{Broadcast, Consensus}
use Rattle.total_order.specs.Carrying.{Carrying, card_count, instance_at, decision_at, waiting, at_rest, settled, settle_steps}
use Rattle.total_order.specs.Calls.{Answer}
use Rattle.total_order.specs.declared.call.Settling.{Settling}
use Rattle.total_order.specs.declared.call.Call.{Call}
use Rattle.total_order.specs.declared.call.Call.TheVariants.{Post, Carry, Lose, Crash, Suspect, Propose, Take, Settle}

-- A settle has the number 0, as any call that is accepted. Its values: its steps, and whether the carrier is at rest, 1 or 0.
abbrev pub settled_as : ℕ → Bool → Case
settled_as steps rest = record { number = 0; values = steps ∷ cond rest 1 0 ∷ [] }

abbrev pub settling_case : Settling → Case
settling_case t = settled_as t.steps t.at_rest

abbrev pub answer_case : Answer → Case
answer_case (Ok None) = record { number = 0; values = [] }
answer_case (Ok (Some t)) = settling_case t
answer_case (Err r) = record { number = number r; values = [] }

module _ {X Y : Type 0} (b : Broadcasts X) (c : Consensuses Y) where
  -- Against a post: as the broadcast has it, and the note has to be in the book.
  abbrev pub posting_reasons : Carrying b c → ℕ → ℕ → List (Bool × ℕ)
  posting_reasons s p m =
      (not (nat_lt p (b.cards s.broadcast)), 1) ∷ (b.crashed s.broadcast p, 2) ∷ (not (nat_lt m (length s.order)), 3)
      ∷ post_reasons (shown b s.broadcast) p m

  -- Against a carry and a loss: as the part has it whose wire it is.
  abbrev pub carrying_reasons : Carrying b c → Wire → ℕ → List (Bool × ℕ)
  carrying_reasons s Broadcast i = carry_reasons (shown b s.broadcast).net i
  carrying_reasons s Consensus i = carry_reasons (told c s.consensus).net i

  abbrev pub losing_reasons : Carrying b c → Wire → ℕ → List (Bool × ℕ)
  losing_reasons s Broadcast i = lose_reasons (shown b s.broadcast).net i
  losing_reasons s Consensus i = lose_reasons (told c s.consensus).net i

  -- Against a crash and a suspicion: as the broadcast has it.
  abbrev pub crashing_reasons : Carrying b c → ℕ → List (Bool × ℕ)
  crashing_reasons s p = crash_reasons (shown b s.broadcast).net p

  abbrev pub suspecting_reasons : Carrying b c → ℕ → ℕ → List (Bool × ℕ)
  suspecting_reasons s q p = suspect_reasons (shown b s.broadcast).net q p

  -- Against a proposal: as the consensus has it, of a card that has a log.
  abbrev pub proposing_reasons : Carrying b c → ℕ → List (Bool × ℕ)
  proposing_reasons s p =
      (not (nat_lt p (card_count b c s)), 1) ∷ propose_reasons (told c s.consensus) (instance_at b c s p) p (waiting b c s p)

  -- Against a take.
  abbrev pub taking_reasons : Carrying b c → ℕ → List (Bool × ℕ)
  taking_reasons s p =
      (not (nat_lt p (card_count b c s)), 1) ∷ (b.crashed s.broadcast p, 2) ∷ (is_none (decision_at b c s p), 10) ∷ []

  abbrev pub settle_case : Carrying b c → ℕ → Case
  settle_case s limit = settled_as (settle_steps b c limit s) (at_rest b c (settled b c limit s))

  -- Of each call.
  abbrev pub call_case : Carrying b c → Call → Case
  call_case s (Post p m) = turned_down_by (posting_reasons s p m)
  call_case s (Carry w i) = turned_down_by (carrying_reasons s w i)
  call_case s (Lose w i) = turned_down_by (losing_reasons s w i)
  call_case s (Crash p) = turned_down_by (crashing_reasons s p)
  call_case s (Suspect q p) = turned_down_by (suspecting_reasons s q p)
  call_case s (Propose p) = turned_down_by (proposing_reasons s p)
  call_case s (Take p) = turned_down_by (taking_reasons s p)
  call_case s (Settle limit) = settle_case s limit

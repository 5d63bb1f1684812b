-- Two cards over the board and the register, with two wear notes.
use Rattle.std.specs.Prelude.{◌≡◌, ℕ, ◌≤◌, true, List, [], ◌∷◌, length}
use Rattle.notes.specs.declared.wear.Wear.{Wear}
use Rattle.notes.specs.contracts.wear.WearKind.TheImpl.{ghosts as wears}
pub use Rattle.board.specs.contracts.state.broadcast.BoardBroadcast.TheImpl.{ghosts as board}
pub use Rattle.register.specs.contracts.state.consensus.RegisterConsensus.TheImpl.{ghosts as register}
use Rattle.total_order.specs.declared.call.Call.{Call}
use Rattle.total_order.specs.declared.call.Call.TheVariants.{Post, Carry, Propose, Settle}
use Rattle.parts.specs.declared.wires.Wire.TheVariants.{Broadcast}
use Rattle.order.specs.Words.{step_bound}
use Rattle.total_order.specs.Carrying.{Carrying, cards_of}
use Rattle.runs.specs.Scripts.{new_carrier}
use Rattle.runs.specs.Runs.{answers_to}
use Rattle.runs.specs.Tally.{tally}
use Rattle.worked.specs.Reports.{Report, report}

-- Note 1, of block 3, ranks before note 0, of block 7.
abbrev pub two_notes : List Wear
two_notes = record { block = 7; erases = 120 } ∷ record { block = 3; erases = 55 } ∷ []

abbrev pub on_two_cards : List Call → Report
on_two_cards calls = report board register wears.precedes 2 two_notes calls

-- Card 0 proposes note 0 before note 1 has come, so note 1 goes into a later batch although it ranks first. Card 1 has nothing to propose yet.
abbrev pub late_note_calls : List Call
late_note_calls = Post 0 0 ∷ Post 1 1 ∷ Carry Broadcast 0 ∷ Propose 0 ∷ Propose 1 ∷ Settle 100 ∷ []

abbrev pub LateNote : Type 0
LateNote = on_two_cards late_note_calls ≡ record {
  refusals = 0 ∷ 0 ∷ 0 ∷ 0 ∷ 9 ∷ 0 ∷ [];
  logs = (0 ∷ 1 ∷ []) ∷ (0 ∷ 1 ∷ []) ∷ [];
  steps = 16;
  rest = true;
}

-- Both notes go into one batch, in ranking order.
abbrev pub one_batch_calls : List Call
one_batch_calls = Post 0 0 ∷ Post 1 1 ∷ Settle 100 ∷ []

abbrev pub OneBatch : Type 0
OneBatch = on_two_cards one_batch_calls ≡ record {
  refusals = 0 ∷ 0 ∷ 0 ∷ [];
  logs = (1 ∷ 0 ∷ []) ∷ (1 ∷ 0 ∷ []) ∷ [];
  steps = 10;
  rest = true;
}

-- The most steps that the bound allows these calls: by the posts that they and their answers tell, the cards, and the bounds of board and register.
abbrev pub steps_allowed : List Call → ℕ
steps_allowed calls = step_bound (tally calls (answers_to board register on_new calls)).posts cards board.bound register.bound
  where
    on_new : Carrying board register
    on_new = new_carrier board register wears.precedes 2 two_notes

    cards : ℕ
    cards = cards_of 2 (length two_notes)

-- So many steps are made by these calls, and so many the bound allows them.
pub record StepsWithinTheBound (calls : List Call) (made allowed : ℕ) : Type 0 where
  pub steps : (on_two_cards calls).steps ≡ made
  pub most : steps_allowed calls ≡ allowed
  pub within : made ≤ allowed

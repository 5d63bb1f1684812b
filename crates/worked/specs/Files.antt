-- Whole files and their reports, byte by byte.
use Rattle.std.specs.Prelude.{◌≡◌, ℕ, List, [], ◌∷◌, map, codes}
use Rattle.std.specs.List.{range_with_len}
use Rattle.notes.specs.declared.wear.Wear.{Wear}
use Rattle.notes.specs.contracts.wear.WearKind.TheImpl.{ghosts as wears}
use Rattle.board.specs.contracts.state.broadcast.BoardBroadcast.TheImpl.{ghosts as board}
use Rattle.register.specs.contracts.state.consensus.RegisterConsensus.TheImpl.{ghosts as register}
use Rattle.total_order.specs.declared.call.Call.TheVariants.{Post}
use Rattle.total_order.specs.Carrying.{Carrying, card_count}
use Rattle.runs.specs.Scripts.{new_carrier}
use Rattle.run_report.specs.Reports.{text_from}
use Rattle.report.specs.Reports.{report_of}

-- Two cards over the board and the register, with two wear notes. Card 0 proposes note 0 before note 1 has come, so note 1 goes into a later
-- batch although it ranks first. Card 1 has nothing to propose yet.
abbrev pub LateNoteFile : Type 0
LateNoteFile =
    report_of (codes "kind wear\ncards 2\npile board register\nnotes 2\nevents 6\n7 120\n3 55\nb 0 0\nb 1 1\nc b 0\np 0\np 1\nr 100\n")
    ≡ codes "no 4 9\nlog 0 up 0 1\nlog 1 up 0 1\nsteps 16 rest\n"

-- The same notes, both in one batch, in ranking order.
abbrev pub OneBatchFile : Type 0
OneBatchFile =
    report_of (codes "kind wear\ncards 2\npile board register\nnotes 2\nevents 3\n7 120\n3 55\nb 0 0\nb 1 1\nr 100\n")
    ≡ codes "log 0 up 1 0\nlog 1 up 1 0\nsteps 10 rest\n"

-- A single card over all-ack and flooding: it is handed its note at once and decides inside its proposal.
abbrev pub OneCard : Type 0
OneCard =
    report_of (codes "kind wear\ncards 1\npile allack flood\nnotes 1\nevents 3\n7 120\nb 0 0\np 0\nt 0\n")
    ≡ codes "log 0 up 0\nsteps 2 rest\n"

-- Relay is not uniform: card 0 logs its note and crashes, and what it sent is lost. The running card never hears of it.
abbrev pub NotUniform : Type 0
NotUniform =
    report_of (codes "kind wear\ncards 2\npile relay register\nnotes 1\nevents 8\n7 120\nb 0 0\np 0\nc c 0\nt 0\nx 0\nl b 0\ns 1 0\nr 9\n")
    ≡ codes "log 0 down 0\nlog 1 up\nsteps 4 rest\n"

-- All-ack would not have handed the note over: the proposal is refused.
abbrev pub NotHandedYet : Type 0
NotHandedYet =
    report_of (codes "kind wear\ncards 2\npile allack register\nnotes 1\nevents 2\n7 120\nb 0 0\np 0\n")
    ≡ codes "no 1 9\nlog 0 up\nlog 1 up\nsteps 0 more\n"

-- Nobody suspects a running card, and a crashed card suspects nobody, itself included.
abbrev pub Suspicions : Type 0
Suspicions =
    report_of (codes "kind wear\ncards 2\npile board register\nnotes 0\nevents 3\ns 0 1\nx 1\ns 1 1\n")
    ≡ codes "no 0 5\nno 2 2\nlog 0 up\nlog 1 down\nsteps 0 rest\n"

-- An item of the board is the carrier's, so it cannot be lost when its poster has crashed.
abbrev pub BoardKeepsItsItems : Type 0
BoardKeepsItsItems =
    report_of (codes "kind wear\ncards 2\npile board register\nnotes 1\nevents 3\n7 120\nb 0 0\nx 0\nl b 0\n")
    ≡ codes "no 2 7\nlog 0 down\nlog 1 up\nsteps 0 more\n"

-- Six cards and 32 notes serve.
abbrev pub SixCards32Notes : Type 0
SixCards32Notes =
    report_of (codes "kind wear\ncards 6\npile board register\nnotes 32\nevents 3\n0 0\n0 1\n0 2\n0 3\n0 4\n0 5\n0 6\n0 7\n0 8\n0 9\n0 10\n0 11\n0 12\n0 13\n0 14\n0 15\n0 16\n0 17\n0 18\n0 19\n0 20\n0 21\n0 22\n0 23\n0 24\n0 25\n0 26\n0 27\n0 28\n0 29\n0 30\n0 31\nb 5 31\nc b 5\np 5\n")
    ≡ codes "log 0 up\nlog 1 up\nlog 2 up\nlog 3 up\nlog 4 up\nlog 5 up\nsteps 2 more\n"

-- A book of so many wear notes, and the new carrier that is asked for with it.
abbrev pub book_of : ℕ → List Wear
book_of notes = map (λ erases. record { block = 0; erases = erases }) (range_with_len 0 notes)

abbrev pub carrier_of : ℕ → ℕ → Carrying board register
carrier_of cards notes = new_carrier board register wears.precedes cards (book_of notes)

-- The report of a post by card 0 on it.
abbrev pub one_post : ℕ → ℕ → List ℕ
one_post cards notes = text_from board register (carrier_of cards notes) (Post 0 0 ∷ [])

-- Six cards and 32 notes are the most that a carrier takes. Seven cards, or 33 notes, make one without cards: it refuses the post, as nobody is
-- there to make it, and is at rest.
pub record BeyondTheCarrier : Type 0 where
  pub most : one_post 6 32 ≡ codes "log 0 up\nlog 1 up\nlog 2 up\nlog 3 up\nlog 4 up\nlog 5 up\nsteps 0 more\n"
  pub all_six_cards : card_count board register (carrier_of 6 32) ≡ 6
  pub seven_cards : one_post 7 32 ≡ codes "no 0 1\nsteps 0 rest\n"
  pub no_card_of_seven : card_count board register (carrier_of 7 32) ≡ 0
  pub many_notes : one_post 6 33 ≡ codes "no 0 1\nsteps 0 rest\n"
  pub no_card_for_many_notes : card_count board register (carrier_of 6 33) ≡ 0

-- In a file, nine cards are a fault already, in the line that starts at byte 10.
abbrev pub TooManyCards : Type 0
TooManyCards =
    report_of (codes "kind wear\ncards 9\n")
    ≡ codes "bad 12 10 contents\n"

pub record WorkedFiles : Type 0 where
  pub late_note : LateNoteFile
  pub one_batch : OneBatchFile
  pub one_card : OneCard
  pub not_uniform : NotUniform
  pub not_handed_yet : NotHandedYet
  pub suspicions : Suspicions
  pub board_keeps_its_items : BoardKeepsItsItems
  pub six_cards_32_notes : SixCards32Notes
  pub beyond_the_carrier : BeyondTheCarrier
  pub too_many_cards : TooManyCards

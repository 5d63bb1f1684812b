use Rattle.std.proofs.Common.{refl}
use lib.Count.{ones, ones_in, count_trailing_zeros}
use Rattle.std.specs.Fmt.{digits}
use Rattle.notes.specs.Sets.{has}
use Rattle.notes.specs.Places.{place}
use Rattle.logs.specs.Orders.{in_ranking_order}
use Rattle.total_order.specs.Calls.{calling}
use Rattle.total_order.specs.Carrying.{waiting, taker, proposer, at_rest, advanced, settled, settle_steps}
use Rattle.runs.specs.Runs.{left_by, answers_to}
use Rattle.flooding.specs.Flooding.{steps_on, through_on}
use Rattle.worked.proofs.files_come_out.Goals as goal

pub returns : goal.returns
unfolding digits ones ones_in count_trailing_zeros has place in_ranking_order waiting taker proposer at_rest advanced settled settle_steps calling left_by answers_to steps_on through_on
returns c = record { late_note = refl; one_batch = refl; one_card = refl; not_uniform = refl; not_handed_yet = refl; suspicions = refl; board_keeps_its_items = refl; six_cards_32_notes = refl; beyond_the_carrier = record { most = refl; all_six_cards = refl; seven_cards = refl; no_card_of_seven = refl; many_notes = refl; no_card_for_many_notes = refl }; too_many_cards = refl }

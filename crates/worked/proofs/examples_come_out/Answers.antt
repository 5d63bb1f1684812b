use Rattle.std.proofs.Common.{refl, lit≤}
use lib.Count.{ones, ones_in}
use Rattle.notes.specs.Sets.{has}
use Rattle.notes.specs.Places.{place}
use Rattle.logs.specs.Orders.{in_ranking_order}
use Rattle.total_order.specs.Carrying.{waiting, taker, proposer, at_rest, advanced, settled, settle_steps}
use Rattle.total_order.specs.Calls.{calling}
use Rattle.runs.specs.Runs.{left_by, answers_to}
use Rattle.worked.proofs.examples_come_out.Goals as goal

pub returns : goal.returns
unfolding ones ones_in has place in_ranking_order waiting taker proposer at_rest advanced settled settle_steps calling left_by answers_to
returns c = record {
  late_note = refl;
  late_note_steps = record { steps = refl; most = refl; within = lit≤ _ };
  one_batch = refl;
  one_batch_steps = record { steps = refl; most = refl; within = lit≤ _ };
}

-- A poster may be left alone with its note.
use Rattle.std.proofs.Common.{zero, suc, sym, refl, arith}
use borrow.Author.Tests.{clash}
use Rattle.std.proofs.lemmas.Bool.{both_ways}
use Rattle.notes.specs.Sets.{has}
use Rattle.parts.specs.Views.{FullSuspicion}
use Rattle.spread.specs.Spread.{new_spread, post_on, without_item, crash_on}
use Rattle.spread.proofs.Keeps.{new_made}
use Rattle.relay.specs.Relay.{seen}
use Rattle.relay.specs.Uniformity.{AlwaysAgrees, LeftAlone, smallest_run}
use Rattle.relay.specs.Means.{post_made, crash_made, lose_made, suspect_made}

all_known : FullSuspicion (seen smallest_run).net
all_known zero p r l d = absurd (clash (sym r.up))
all_known (suc zero) zero r l d = refl
all_known (suc zero) (suc zero) r l d = absurd (clash d)
all_known (suc zero) (suc (suc p)) r l d = absurd (omega arith)
all_known (suc (suc q)) p r l d = absurd (omega (arith, r.card))

pub left_alone : LeftAlone smallest_run
unfolding has
left_alone =
    let posted = post_on (new_spread 2) 0 0 in
    let crashed = crash_on posted 0 in
    record {
      made = suspect_made (without_item crashed 0) 1 0 (lose_made crashed 0 (crash_made posted 0 (post_made (new_spread 2) 0 0 (new_made 2) refl) refl) refl) refl;
      quiet = record { empty = refl; known = all_known };
      handed = refl;
      runs = record { card = omega arith; up = refl };
      missing = refl;
    }

pub never_uniform : AlwaysAgrees → ⊥
never_uniform agrees = let a = left_alone in both_ways _ a.missing (agrees smallest_run a.made a.quiet 0 1 0 a.handed a.runs)

-- Relay is not uniform, and the smallest run that shows it.
use Rattle.std.specs.Prelude.{◌≡◌, true, false}
use Rattle.notes.specs.Sets.{has}
use Rattle.parts.specs.Views.{Runs, Quiet}
use Rattle.parts.specs.Broadcasting.{UniformAgreement}
use Rattle.spread.specs.Spread.{SpreadState, new_spread, post_on, without_item, crash_on, suspect_on}
use Rattle.spread.specs.Made.{MadeSpread}
use Rattle.relay.specs.Relay.{relay_handed, seen}

-- What it would be to be uniform.
abbrev pub AlwaysAgrees : Type 0
AlwaysAgrees = (x : SpreadState) → MadeSpread x → Quiet (seen x).net → UniformAgreement (seen x)

-- Two cards: card 0 posts note 0 and crashes, its item is lost, and card 1 suspects card 0.
abbrev pub smallest_run : SpreadState
smallest_run = suspect_on (without_item (crash_on (post_on (new_spread 2) 0 0) 0) 0) 1 0

-- Then it is quiet, card 0 was handed note 0, and card 1 runs and was not.
pub record LeftAlone (x : SpreadState) : Type 0 where
  pub made : MadeSpread x
  pub quiet : Quiet (seen x).net
  pub handed : has (relay_handed x 0) 0 ≡ true
  pub runs : Runs (seen x).net 1
  pub missing : has (relay_handed x 1) 0 ≡ false

-- What holds of every such broadcast that is made by `new` and the calls.
use Rattle.std.specs.Prelude.{◌≡◌, ℕ, ◌^◌, ◌<◌, ◌≤◌, true, false, length, is_some, Some}
use Rattle.notes.specs.Sets.{has}
use Rattle.cards.specs.Cards.{crashed_in, SoundCards}
use Rattle.tables.specs.Tables.{poster_in, set_in}
use Rattle.at_once.specs.AtOnce.{AtOnceState}

pub record MadeAtOnce (x : AtOnceState) : Type 0 where
  pub sound : SoundCards x.cards
  pub notes : length x.posters ≡ 32
  pub sets : length x.handed ≡ 6
  pub posters_cards : (m p : ℕ) → poster_in x.posters m ≡ Some p → p < x.cards.count
  pub handed_posted : (p m : ℕ) → has (set_in x.handed p) m ≡ true → is_some (poster_in x.posters m) ≡ true
  pub outside : (p : ℕ) → x.cards.count ≤ p → set_in x.handed p ≡ 0
  pub fits : (p : ℕ) → set_in x.handed p < 2 ^ 32
  -- a running card has been handed all that was posted
  pub all_handed : (p m : ℕ) → p < x.cards.count → crashed_in x.cards p ≡ false → is_some (poster_in x.posters m) ≡ true → has (set_in x.handed p) m ≡ true

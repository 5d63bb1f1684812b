-- What holds of every board that is made by `new` and the calls.
use Rattle.std.specs.Prelude.{◌≡◌, ℕ, ◌^◌, ◌<◌, ◌≤◌, Bool, true, false, ◌&&◌, ◌||◌, List, length, is_some, Some, Option, ◌==◌}
use Rattle.std.specs.List.{AllByRecursion, list_any}
use Rattle.notes.specs.Sets.{has}
use Rattle.cards.specs.Cards.{CardState, crashed_in, SoundCards}
use Rattle.tables.specs.Tables.{poster_in, set_in}
use Rattle.wire.specs.declared.Item.{Item}
use Rattle.board.specs.Board.{BoardState}

-- An item under way: from the carrier, to a running card, with a posted note.
pub record Underway (c : CardState) (posters : List (Option ℕ)) (y : Item ℕ) : Type 0 where
  pub carrier : y.from ≡ 7
  pub card : y.to < c.count
  pub up : crashed_in c y.to ≡ false
  pub posted : is_some (poster_in posters y.load) ≡ true

-- Whether an item brings note m to card p.
abbrev pub brings : ℕ → ℕ → Item ℕ → Bool
brings m p y = y.load == m && y.to == p

pub record MadeBoard (x : BoardState) : Type 0 where
  pub sound : SoundCards x.cards
  pub notes : length x.posters ≡ 32
  pub sets : length x.handed ≡ 6
  pub posters_cards : (m p : ℕ) → poster_in x.posters m ≡ Some p → p < x.cards.count
  pub items : AllByRecursion (Underway x.cards x.posters) x.wire
  pub handed_posted : (p m : ℕ) → has (set_in x.handed p) m ≡ true → is_some (poster_in x.posters m) ≡ true
  pub outside : (p : ℕ) → x.cards.count ≤ p → set_in x.handed p ≡ 0
  pub fits : (p : ℕ) → set_in x.handed p < 2 ^ 32
  -- a posted note is handed to each running card, or on its way to it
  pub due : (p m : ℕ) → p < x.cards.count → crashed_in x.cards p ≡ false → is_some (poster_in x.posters m) ≡ true → (has (set_in x.handed p) m || list_any (brings m p) x.wire) ≡ true

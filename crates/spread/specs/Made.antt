-- What holds of every spread that is made by `new` and the calls.
use Rattle.std.specs.Prelude.{◌≡◌, ℕ, ◌^◌, ◌<◌, ◌≤◌, Bool, true, false, ◌&&◌, ◌||◌, length, is_some, Some, ◌==◌}
use Rattle.std.specs.List.{AllByRecursion, list_any}
use Rattle.notes.specs.Sets.{has}
use Rattle.cards.specs.Cards.{crashed_in, Running, SoundCards}
use Rattle.tables.specs.Tables.{poster_in, set_in}
use Rattle.wire.specs.declared.Item.{Item}
use Rattle.spread.specs.Spread.{SpreadState}

-- An item under way: from a card that relayed its note, to a running card, with a posted note.
pub record Underway (x : SpreadState) (y : Item ℕ) : Type 0 where
  pub sender : y.from < x.cards.count
  pub card : y.to < x.cards.count
  pub up : crashed_in x.cards y.to ≡ false
  pub posted : is_some (poster_in x.posters y.load) ≡ true
  pub by_relayer : has (set_in x.relayed y.from) y.load ≡ true

-- Whether an item brings note m from card p to card q.
abbrev pub brings : ℕ → ℕ → ℕ → Item ℕ → Bool
brings p q m y = y.from == p && (y.to == q && y.load == m)

-- What holds also in the midst of a call.
pub record SoundSpread (x : SpreadState) : Type 0 where
  pub sound : SoundCards x.cards
  pub notes : length x.posters ≡ 32
  pub sets : length x.relayed ≡ 6
  pub posters_cards : (m p : ℕ) → poster_in x.posters m ≡ Some p → p < x.cards.count
  pub items : AllByRecursion (Underway x) x.wire
  pub relayed_posted : (p m : ℕ) → has (set_in x.relayed p) m ≡ true → is_some (poster_in x.posters m) ≡ true
  pub outside : (p : ℕ) → x.cards.count ≤ p → set_in x.relayed p ≡ 0
  pub fits : (p : ℕ) → set_in x.relayed p < 2 ^ 32

-- What a running card has relayed has got to each running card, or is on its way there: `got p q m` says what it means to have got from p to q.
abbrev pub Delivers : (ℕ → ℕ → ℕ → Bool) → SpreadState → Type 0
Delivers got x = (p q m : ℕ) → Running x.cards p → Running x.cards q → has (set_in x.relayed p) m ≡ true → (got p q m || list_any (brings p q m) x.wire) ≡ true

-- In a spread, to have got a note is to have relayed it.
abbrev pub relayed_to : SpreadState → ℕ → ℕ → ℕ → Bool
relayed_to x p q m = has (set_in x.relayed q) m

pub record MadeSpread (x : SpreadState) : Type 0 where
  pub whole : SoundSpread x
  pub poster_relayed : (m p : ℕ) → poster_in x.posters m ≡ Some p → has (set_in x.relayed p) m ≡ true
  -- what a running card has relayed, each running card has relayed too, or it is on its way from the one to the other
  pub due : Delivers (relayed_to x) x

-- What holds of every all-ack that is made by `new` and the calls.
use Rattle.std.specs.Prelude.{◌≡◌, ℕ, ◌^◌, ◌<◌, ◌≤◌, Bool, true, false, List, [], length, slice_index_or}
use Rattle.notes.specs.Sets.{has}
use Rattle.cards.specs.Cards.{crashed_in, suspects_in}
use Rattle.tables.specs.Tables.{set_in}
use Rattle.spread.specs.Made.{Delivers, MadeSpread}
use Rattle.allack.specs.Counts.{counted_in}
use Rattle.allack.specs.AllAck.{AllAckState}

-- What holds also in the midst of a call.
pub record SoundAllAck (x : AllAckState) : Type 0 where
  pub below : MadeSpread x.spread
  pub rows : length x.counted ≡ 6
  pub row : (p : ℕ) → p < 6 → length (slice_index_or x.counted p []) ≡ 6
  pub sets : length x.handed ≡ 6
  -- only relayers are counted, and only of notes that the counting card relayed too
  pub counted_relayed : (p q m : ℕ) → has (counted_in x.counted p q) m ≡ true → has (set_in x.spread.relayed q) m ≡ true
  pub counter_relayed : (p q m : ℕ) → has (counted_in x.counted p q) m ≡ true → has (set_in x.spread.relayed p) m ≡ true
  -- a card that was handed a note has relayed it, and has counted every card that still runs
  pub handed_relayed : (p m : ℕ) → has (set_in x.handed p) m ≡ true → has (set_in x.spread.relayed p) m ≡ true
  pub handed_counted : (p q m : ℕ) → q < x.spread.cards.count → crashed_in x.spread.cards q ≡ false → has (set_in x.handed p) m ≡ true → has (counted_in x.counted p q) m ≡ true
  pub outside : (p : ℕ) → x.spread.cards.count ≤ p → set_in x.handed p ≡ 0
  pub fits : (p : ℕ) → set_in x.handed p < 2 ^ 32

-- Card p has relayed note m and counted every card that it does not suspect.
pub record Complete (x : AllAckState) (p m : ℕ) : Type 0 where
  pub relayed : has (set_in x.spread.relayed p) m ≡ true
  pub counted : (q : ℕ) → q < x.spread.cards.count → suspects_in x.spread.cards p q ≡ false → has (counted_in x.counted p q) m ≡ true

-- Who has counted whom: a note has got from card p to card q when q has counted p.
abbrev pub counted_by : List (List ℕ) → ℕ → ℕ → ℕ → Bool
counted_by t p q m = has (counted_in t q p) m

pub record MadeAllAck (x : AllAckState) : Type 0 where
  pub whole : SoundAllAck x
  pub self_counted : (p m : ℕ) → has (set_in x.spread.relayed p) m ≡ true → has (counted_in x.counted p p) m ≡ true
  -- a running card that has relayed a note is counted by each running card, or the note is on its way from the one to the other
  pub due : Delivers (counted_by x.counted) x.spread
  pub complete_handed : (p m : ℕ) → p < x.spread.cards.count → crashed_in x.spread.cards p ≡ false → Complete x p m → has (set_in x.handed p) m ≡ true

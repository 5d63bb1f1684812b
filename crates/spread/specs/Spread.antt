-- Notes that spread by relaying: what the state holds, what is seen of it, and what each accepted call makes of it.
use Rattle.std.specs.Prelude.{◌≡◌, ◌≤◌, ℕ, ◌+◌, ◌-◌, ◌*◌, Bool, cond, not, ◌&&◌, List, [], ◌++◌, length, replicate, is_some, Some, None, Option, nat_lt, slice_set}
use Rattle.std.specs.List.{slice_get, remove}
use Rattle.notes.specs.Sets.{has}
use Rattle.cards.specs.Cards.{CardState, crashed_in, new_cards, with_crash, with_suspicion}
use Rattle.tables.specs.Tables.{poster_in, set_in, with_note}
use Rattle.wire.specs.Wires.{WireState, sent, without_to}
use Rattle.wire.specs.declared.Item.{Item}
use Rattle.spread.specs.Counts.{pairs, unrelayed}

-- `relayed` has a set for each card: the notes that it has relayed. An item's load is the note.
pub record SpreadState : Type 0 where
  pub cards : CardState
  pub posters : List (Option ℕ)
  pub relayed : List ℕ
  pub wire : List (Item ℕ)

-- There is room for every relay to come, each to at most five other cards.
pub record Roomy (cards : CardState) (relayed : List ℕ) (wire : WireState ℕ) : Type 0 where
  pub few : cards.count ≤ 6
  pub sets : length relayed ≡ 6
  pub room : length wire.items + 5 * unrelayed relayed ≤ wire.room

-- Whether card p has still to relay note m.
abbrev pub lacks : SpreadState → ℕ → ℕ → Bool
lacks x p m = nat_lt p x.cards.count && (nat_lt m 32 && not (has (set_in x.relayed p) m))

-- Each item is carried once, and each running card still relays each posted note that it has not relayed to all others.
abbrev pub owes : SpreadState → ℕ → ℕ → Bool
owes x p m = not (crashed_in x.cards p) && (is_some (poster_in x.posters m) && not (has (set_in x.relayed p) m))

unfoldable pub spread_work : SpreadState → ℕ
spread_work x = length x.wire + (x.cards.count - 1) * pairs (owes x) x.cards.count 32

-- What is made.

abbrev pub new_spread : ℕ → SpreadState
new_spread n = record { cards = new_cards n; posters = replicate 32 None; relayed = replicate 6 0; wire = [] }

-- Card p sends note m to every other running card, destinations ascending.
abbrev pub relay_on : SpreadState → ℕ → ℕ → SpreadState
relay_on x p m = record { cards = x.cards; posters = x.posters; relayed = with_note x.relayed p m; wire = x.wire ++ sent x.cards p m x.cards.count }

-- Card p meets note m: it relays it, unless it has done so before.
abbrev pub meet_on : SpreadState → ℕ → ℕ → SpreadState
meet_on x p m =
    record {
      cards = x.cards;
      posters = x.posters;
      relayed = cond (lacks x p m) (relay_on x p m).relayed x.relayed;
      wire = cond (lacks x p m) (relay_on x p m).wire x.wire;
    }

-- The poster meets its note by posting it.
abbrev pub posted_by : SpreadState → ℕ → ℕ → SpreadState
posted_by x p m = record { cards = x.cards; posters = slice_set x.posters m (Some p); relayed = x.relayed; wire = x.wire }

abbrev pub post_on : SpreadState → ℕ → ℕ → SpreadState
post_on x p m = meet_on (posted_by x p m) p m

-- A card meets the note of an item that is carried to it.
abbrev pub without_item : SpreadState → ℕ → SpreadState
without_item x i = record { cards = x.cards; posters = x.posters; relayed = x.relayed; wire = remove x.wire i }

abbrev pub received : SpreadState → Option (Item ℕ) → SpreadState
received x None = x
received x (Some y) = meet_on x y.to y.load

abbrev pub carry_on : SpreadState → ℕ → SpreadState
carry_on x i = received (without_item x i) (slice_get x.wire i)

-- A crash takes off the items addressed to the card, and none that it sent.
abbrev pub crash_on : SpreadState → ℕ → SpreadState
crash_on x p = record { cards = with_crash x.cards p; posters = x.posters; relayed = x.relayed; wire = without_to p x.wire }

abbrev pub suspect_on : SpreadState → ℕ → ℕ → SpreadState
suspect_on x q p = record { cards = with_suspicion x.cards q p; posters = x.posters; relayed = x.relayed; wire = x.wire }

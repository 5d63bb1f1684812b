-- All-ack: what its state holds, what is seen of it, and what each accepted call makes of it.
use Rattle.std.specs.Prelude.{ℕ, zero, suc, Bool, cond, List, replicate, Some, None, Option}
use Rattle.std.specs.List.{slice_get}
use Rattle.notes.specs.Sets.{minus}
use Rattle.parts.specs.Views.{BroadcastView}
use Rattle.parts.specs.Broadcasting.{broadcast_view}
use Rattle.cards.specs.Cards.{suspects_in}
use Rattle.tables.specs.Tables.{set_in, with_notes}
use Rattle.wire.specs.declared.Item.{Item}
use Rattle.spread.specs.Seen.{spread_cards, spread_crashed, spread_suspects, spread_wire, spread_poster}
use Rattle.spread.specs.Spread as spread
use Rattle.spread.specs.Spread.{SpreadState, spread_work}
use Rattle.allack.specs.Counts.{new_counts, counted_in, with_count}

pub record AllAckState : Type 0 where
  pub spread : SpreadState
  pub counted : List (List ℕ)
  pub handed : List ℕ

-- What is seen.

abbrev pub ack_cards : AllAckState → ℕ
ack_cards x = spread_cards x.spread

abbrev pub ack_crashed : AllAckState → ℕ → Bool
ack_crashed x = spread_crashed x.spread

abbrev pub ack_suspects : AllAckState → ℕ → ℕ → Bool
ack_suspects x = spread_suspects x.spread

abbrev pub ack_wire : AllAckState → List ℕ
ack_wire x = spread_wire x.spread

-- Each item is carried once, and each running card still relays each posted note that it has not relayed to all others.
abbrev pub ack_work : AllAckState → ℕ
ack_work x = spread_work x.spread

abbrev pub ack_poster : AllAckState → ℕ → Option ℕ
ack_poster x = spread_poster x.spread

abbrev pub ack_handed : AllAckState → ℕ → ℕ
ack_handed x = set_in x.handed

abbrev pub seen : AllAckState → BroadcastView
seen = broadcast_view ack_cards ack_crashed ack_suspects ack_wire ack_work ack_poster ack_handed

-- What is made.

abbrev pub new_all_ack : ℕ → AllAckState
new_all_ack n = record { spread = spread.new_spread n; counted = new_counts; handed = replicate 6 0 }

abbrev pub spread_to : AllAckState → SpreadState → AllAckState
spread_to x s = record { spread = s; counted = x.counted; handed = x.handed }

-- Card p counts card q as a relayer of note m.
abbrev pub count_on : AllAckState → ℕ → ℕ → ℕ → AllAckState
count_on x p q m = record { spread = x.spread; counted = with_count x.counted p q m; handed = x.handed }

-- The notes that both sets hold.
abbrev pub common : ℕ → ℕ → ℕ
common s t = minus s (minus s t)

-- The notes that card p has relayed, and of which it has counted every card below k that it does not suspect.
abbrev pub complete : AllAckState → ℕ → ℕ → ℕ
complete x p zero = set_in x.spread.relayed p
complete x p (suc k) = cond (suspects_in x.spread.cards p k) (complete x p k) (common (complete x p k) (counted_in x.counted p k))

-- They are handed to it.
abbrev pub hand_on : AllAckState → ℕ → AllAckState
hand_on x p = record { spread = x.spread; counted = x.counted; handed = with_notes x.handed p (complete x p x.spread.cards.count) }

-- A poster relays its note and counts itself.
abbrev pub post_on : AllAckState → ℕ → ℕ → AllAckState
post_on x p m = hand_on (count_on (spread_to x (spread.post_on x.spread p m)) p p m) p

-- A card that an item is carried to relays its note, if it has not, and counts itself and the relayer.
abbrev pub counting : AllAckState → Option (Item ℕ) → AllAckState
counting x None = x
counting x (Some y) = hand_on (count_on (count_on x y.to y.to y.load) y.to y.from y.load) y.to

abbrev pub carry_on : AllAckState → ℕ → AllAckState
carry_on x i = counting (spread_to x (spread.carry_on x.spread i)) (slice_get x.spread.wire i)

abbrev pub lose_on : AllAckState → ℕ → AllAckState
lose_on x i = spread_to x (spread.without_item x.spread i)

abbrev pub crash_on : AllAckState → ℕ → AllAckState
crash_on x p = spread_to x (spread.crash_on x.spread p)

-- A card that it suspects need not be counted any more.
abbrev pub suspect_on : AllAckState → ℕ → ℕ → AllAckState
suspect_on x q p = hand_on (spread_to x (spread.suspect_on x.spread q p)) q

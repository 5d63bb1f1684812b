-- A broadcast that hands each note over at once: what its state holds, what is seen of it, and what each accepted call makes of it.
use Rattle.std.specs.Prelude.{ℕ, zero, suc, Bool, cond, List, [], replicate, Some, None, Option, slice_set}
use Rattle.parts.specs.Views.{BroadcastView}
use Rattle.parts.specs.Broadcasting.{broadcast_view}
use Rattle.cards.specs.Cards.{CardState, crashed_in, suspects_in, new_cards, with_crash, with_suspicion}
use Rattle.tables.specs.Tables.{poster_in, set_in, with_note}

pub record AtOnceState : Type 0 where
  pub cards : CardState
  pub posters : List (Option ℕ)
  pub handed : List ℕ

-- What is seen.

abbrev pub at_once_cards : AtOnceState → ℕ
at_once_cards x = x.cards.count

abbrev pub at_once_crashed : AtOnceState → ℕ → Bool
at_once_crashed x = crashed_in x.cards

abbrev pub at_once_suspects : AtOnceState → ℕ → ℕ → Bool
at_once_suspects x = suspects_in x.cards

-- Nothing is ever under way, so nothing is left to be carried.
abbrev pub at_once_wire : AtOnceState → List ℕ
at_once_wire x = []

abbrev pub at_once_work : AtOnceState → ℕ
at_once_work x = 0

abbrev pub at_once_poster : AtOnceState → ℕ → Option ℕ
at_once_poster x = poster_in x.posters

abbrev pub at_once_handed : AtOnceState → ℕ → ℕ
at_once_handed x = set_in x.handed

abbrev pub seen : AtOnceState → BroadcastView
seen = broadcast_view at_once_cards at_once_crashed at_once_suspects at_once_wire at_once_work at_once_poster at_once_handed

-- What is made.

abbrev pub new_at_once : ℕ → AtOnceState
new_at_once n = record { cards = new_cards n; posters = replicate 32 None; handed = replicate 6 0 }

-- Note m goes into the set of each card below k that runs.
abbrev pub hand_out : CardState → ℕ → List ℕ → ℕ → List ℕ
hand_out c m t zero = t
hand_out c m t (suc k) = cond (crashed_in c k) (hand_out c m t k) (with_note (hand_out c m t k) k m)

abbrev pub post_on : AtOnceState → ℕ → ℕ → AtOnceState
post_on x p m = record { cards = x.cards; posters = slice_set x.posters m (Some p); handed = hand_out x.cards m x.handed x.cards.count }

-- No carry and no loss is ever accepted.
abbrev pub unchanged : AtOnceState → ℕ → AtOnceState
unchanged x i = x

abbrev pub crash_on : AtOnceState → ℕ → AtOnceState
crash_on x p = record { cards = with_crash x.cards p; posters = x.posters; handed = x.handed }

abbrev pub suspect_on : AtOnceState → ℕ → ℕ → AtOnceState
suspect_on x q p = record { cards = with_suspicion x.cards q p; posters = x.posters; handed = x.handed }

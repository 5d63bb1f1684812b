-- The board: what its state holds, what is seen of it, and what each accepted call makes of it.
use Rattle.std.specs.Prelude.{ℕ, Bool, List, [], ◌++◌, length, replicate, Some, None, Option, slice_set}
use Rattle.std.specs.List.{slice_get, remove}
use Rattle.parts.specs.Views.{BroadcastView}
use Rattle.parts.specs.Broadcasting.{broadcast_view}
use Rattle.cards.specs.Cards.{CardState, crashed_in, suspects_in, new_cards, with_crash, with_suspicion}
use Rattle.tables.specs.Tables.{poster_in, set_in, with_note}
use Rattle.wire.specs.Wires.{senders, sent, without_to}
use Rattle.wire.specs.declared.Item.{Item}

-- An item's load is the note that it hands over.
pub record BoardState : Type 0 where
  pub cards : CardState
  pub posters : List (Option ℕ)
  pub handed : List ℕ
  pub wire : List (Item ℕ)

-- What is seen.

abbrev pub board_cards : BoardState → ℕ
board_cards x = x.cards.count

abbrev pub board_crashed : BoardState → ℕ → Bool
board_crashed x = crashed_in x.cards

abbrev pub board_suspects : BoardState → ℕ → ℕ → Bool
board_suspects x = suspects_in x.cards

abbrev pub board_wire : BoardState → List ℕ
board_wire x = senders x.wire

-- Each item is carried once.
abbrev pub board_work : BoardState → ℕ
board_work x = length x.wire

abbrev pub board_poster : BoardState → ℕ → Option ℕ
board_poster x = poster_in x.posters

abbrev pub board_handed : BoardState → ℕ → ℕ
board_handed x = set_in x.handed

abbrev pub seen : BoardState → BroadcastView
seen = broadcast_view board_cards board_crashed board_suspects board_wire board_work board_poster board_handed

-- What is made.

abbrev pub new_board : ℕ → BoardState
new_board n = record { cards = new_cards n; posters = replicate 32 None; handed = replicate 6 0; wire = [] }

-- An item for every running card, destinations ascending, from the carrier (7).
abbrev pub post_on : BoardState → ℕ → ℕ → BoardState
post_on x p m = record { cards = x.cards; posters = slice_set x.posters m (Some p); handed = x.handed; wire = x.wire ++ sent x.cards 7 m x.cards.count }

-- The note of an item goes into its card's set.
abbrev pub hand_over : List ℕ → Option (Item ℕ) → List ℕ
hand_over sets None = sets
hand_over sets (Some y) = with_note sets y.to y.load

abbrev pub carry_on : BoardState → ℕ → BoardState
carry_on x i = record { cards = x.cards; posters = x.posters; handed = hand_over x.handed (slice_get x.wire i); wire = remove x.wire i }

abbrev pub lose_on : BoardState → ℕ → BoardState
lose_on x i = record { cards = x.cards; posters = x.posters; handed = x.handed; wire = remove x.wire i }

abbrev pub crash_on : BoardState → ℕ → BoardState
crash_on x p = record { cards = with_crash x.cards p; posters = x.posters; handed = x.handed; wire = without_to p x.wire }

abbrev pub suspect_on : BoardState → ℕ → ℕ → BoardState
suspect_on x q p = record { cards = with_suspicion x.cards q p; posters = x.posters; handed = x.handed; wire = x.wire }

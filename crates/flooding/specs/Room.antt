-- How many items there can be at once: those there are, and those that are still to be sent.
use Rattle.std.specs.Prelude.{ℕ, ◌+◌, ◌-◌, ◌*◌, cond, List, [], ◌∷◌, length, Option, ◌==◌}
use Rattle.tables.specs.Tables.{free_ballots}
use Rattle.wire.specs.declared.Item.{Item}
use Rattle.flooding.specs.declared.seats.Seat.{Seat}
use Rattle.flooding.specs.declared.mail.Load.{Load}

-- How many of 6 rounds a card in round r may still enter; who has not proposed is counted with the proposals to come.
unfoldable pub rounds_after : ℕ → ℕ
rounds_after r = cond (r == 0) 0 (6 - r)

abbrev pub row_rounds : List Seat → ℕ
row_rounds [] = 0
row_rounds (s ∷ ss) = rounds_after s.round + row_rounds ss

unfoldable pub rounds_left : List (List Seat) → ℕ
rounds_left [] = 0
rounds_left (r ∷ rs) = row_rounds r + rounds_left rs

-- A proposal brings at most 30 items, 5 in each of 6 rounds.
abbrev pub demand : List (Item Load) → List (Item Load) → List (List (Option ℕ)) → List (List Seat) → ℕ
demand wire kept proposals seats = length wire + length kept + 30 * free_ballots proposals + 5 * rounds_left seats

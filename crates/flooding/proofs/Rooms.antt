-- The rounds that are left, as a seat is changed.
use Rattle.std.proofs.Common.{◌≡◌, ℕ, zero, suc, ◌+◌, ◌<◌, ◌≤◌, List, [], ◌∷◌, get_or, set, refl, arith}
use Rattle.std.proofs.lemmas.Bool.Decides.{nat_tests}
use Rattle.std.proofs.lemmas.List.{length-append}
use Rattle.wire.proofs.Wires.{length_sent_others}
use Rattle.flooding.specs.Seats.{no_seat, new_seats, seat_in, with_seat}
use Rattle.flooding.specs.declared.seats.Seat.{Seat}
use Rattle.flooding.specs.Room.{rounds_after, row_rounds, rounds_left}

pub rounds_step : (r : ℕ) → 0 < r → r < 6 → rounds_after (r + 1) + 1 ≡ rounds_after r
unfolding rounds_after
rounds_step r o l = grind (arith, nat_tests)

row_after : (ss : List Seat) (q : ℕ) (s : Seat) → row_rounds (set ss q s) + rounds_after (get_or ss q no_seat).round ≤ row_rounds ss + rounds_after s.round
unfolding rounds_after
row_after [] q s = omega arith
row_after (x ∷ xs) zero s = omega arith
row_after (x ∷ xs) (suc q) s = let h : row_rounds (set xs q s) + rounds_after (get_or xs q no_seat).round ≤ row_rounds xs + rounds_after s.round = row_after xs q s in omega arith

-- What the new seat has left comes in the place of what the old one had.
pub left_after : (t : List (List Seat)) (k q : ℕ) (s : Seat) → rounds_left (with_seat t k q s) + rounds_after (seat_in t k q).round ≤ rounds_left t + rounds_after s.round
unfolding rounds_left rounds_after
left_after [] k q s = omega arith
left_after (r ∷ rs) zero q s = omega (arith, row_after r q s)
left_after (r ∷ rs) (suc k) q s = let h : rounds_left (with_seat rs k q s) + rounds_after (seat_in rs k q).round ≤ rounds_left rs + rounds_after s.round = left_after rs k q s in omega arith

-- An item more is one more, and a card sends to one less than there are.
pub ruleset items_counted = (length-append, length_sent_others)

pub rounds_first : rounds_after 1 ≡ 5
unfolding rounds_after
rounds_first = refl

pub new_rounds : rounds_left new_seats ≡ 0
unfolding rounds_left rounds_after
new_rounds = refl

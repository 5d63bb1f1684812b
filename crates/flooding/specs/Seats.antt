-- The seats: where each card stands in each instance. A set of cards is a number, card p in it where `has` says so.
use Rattle.std.specs.Prelude.{ℕ, zero, suc, Bool, true, cond, ◌&&◌, ◌||◌, List, [], replicate, bit_or, nat_lt, slice_index_or, slice_set}
use Rattle.notes.specs.Sets.{has, added}
use Rattle.cards.specs.Cards.{CardState, suspects_in}
use Rattle.flooding.specs.declared.seats.Seat.{Seat}

abbrev pub no_seat : Seat
no_seat = record { round = 0; counted = 0; known = 0 }

abbrev pub new_seats : List (List Seat)
new_seats = replicate 32 (replicate 6 no_seat)

abbrev pub seat_in : List (List Seat) → ℕ → ℕ → Seat
seat_in t k p = slice_index_or (slice_index_or t k []) p no_seat

abbrev pub with_seat : List (List Seat) → ℕ → ℕ → Seat → List (List Seat)
with_seat t k p s = slice_set t k (slice_set (slice_index_or t k []) p s)

-- On entering a round, card q has counted only itself.
abbrev pub entering : ℕ → ℕ → ℕ → Seat
entering q r known = record { round = r; counted = added 0 q; known = known }

-- Card q counts the sender and takes over what it knows, unless it suspects it.
abbrev pub hearing : CardState → ℕ → ℕ → ℕ → Seat → Seat
hearing c q from known s = cond (suspects_in c q from) s (record { round = s.round; counted = added s.counted from; known = bit_or s.known known })

-- Card p is counted, or suspected by q.
abbrev pub accounted_for : CardState → ℕ → Seat → ℕ → Bool
accounted_for c q s p = suspects_in c q p || has s.counted p

-- Each of the first m cards is.
abbrev pub all_counted : CardState → ℕ → Seat → ℕ → Bool
all_counted c q s zero = true
all_counted c q s (suc m) = all_counted c q s m && accounted_for c q s m

-- It has proposed, and every card is.
abbrev pub ready : CardState → ℕ → Seat → Bool
ready c q s = nat_lt 0 s.round && all_counted c q s c.count

-- Lists of items: those under way, and those that are kept for a later round.
use Rattle.std.specs.Prelude.{ℕ, Bool, cond, not, ◌&&◌, List, [], ◌∷◌, filter, ◌==◌}
use Rattle.cards.specs.Cards.{CardState}
use Rattle.wire.specs.declared.Item.{Item}
use Rattle.flooding.specs.Seats.{seat_in, hearing}
use Rattle.flooding.specs.declared.seats.Seat.{Seat}
use Rattle.flooding.specs.declared.mail.Load.{Load}

-- What card q tells the others in instance k: its round, and what it knows.
abbrev pub telling : List (List Seat) → ℕ → ℕ → Load
telling t k q = record { instance = k; round = (seat_in t k q).round; known = (seat_in t k q).known }

-- Whether an item is for card q in round r of instance k.
abbrev pub is_for : ℕ → ℕ → ℕ → Item Load → Bool
is_for k r q y = y.load.instance == k && (y.load.round == r && y.to == q)

-- Card q takes in an item if it is for its round; whether it suspects the sender is judged now.
abbrev pub taking_one : CardState → ℕ → ℕ → Seat → Item Load → Seat
taking_one c k q s y = cond (is_for k s.round q y) (hearing c q y.from y.load.known s) s

abbrev pub taking_in : CardState → ℕ → ℕ → Seat → List (Item Load) → Seat
taking_in c k q s [] = s
taking_in c k q s (y ∷ ys) = taking_in c k q (taking_one c k q s y) ys

-- What stays kept when card q takes in what is kept for round r: all that is not for that round.
abbrev pub stays_kept : ℕ → ℕ → ℕ → Item Load → Bool
stays_kept k r q y = not (is_for k r q y)

abbrev pub still_kept : ℕ → ℕ → ℕ → List (Item Load) → List (Item Load)
still_kept k r q ys = filter (stays_kept k r q) ys

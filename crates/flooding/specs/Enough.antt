-- Whether there is room for what comes next: the two lists have room for 5,760 items each.
use Rattle.std.specs.Prelude.{ℕ, ◌+◌, ◌*◌, ◌<◌, ◌≤◌, List, Option}
use Rattle.cards.specs.Cards.{CardState}
use Rattle.wire.specs.Wires.{WireState}
use Rattle.wire.specs.declared.Item.{Item}
use Rattle.flooding.specs.declared.mail.Load.{Load}
use Rattle.flooding.specs.declared.seats.Seat.{Seat}
use Rattle.flooding.specs.Seats.{seat_in}
use Rattle.flooding.specs.Flooding.{FloodingState}
use Rattle.flooding.specs.Room.{demand, rounds_after}

abbrev pub demand_of : FloodingState → ℕ
demand_of x = demand x.wire x.kept x.proposals x.seats

-- What holds of the fields of every flooding: the wire and the list of what is kept have the room that was reserved for them, and it is enough.
pub record HasRoom (c : CardState) (wire : WireState Load) (room : ℕ) (kept : List (Item Load)) (proposals : List (List (Option ℕ))) (seats : List (List Seat)) : Type 0 where
  pub few : c.count ≤ 6
  pub sendable : 5760 ≤ wire.room
  pub keepable : 5760 ≤ room
  pub enough : demand wire.items kept proposals seats ≤ 5760

-- For what card q sends on entering round r of instance k, and in the rounds after it.
pub record MayEnter (x : FloodingState) (k q r : ℕ) : Type 0 where
  pub card : q < x.cards.count
  pub room : demand_of x + 5 * rounds_after r + 5 ≤ 5760 + 5 * rounds_after (seat_in x.seats k q).round

-- For an item that is kept.
abbrev pub MayKeep : FloodingState → Type 0
MayKeep x = demand_of x < 5760

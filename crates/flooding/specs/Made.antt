-- What holds of every flooding that is made by `new` and the calls: in each instance its state is that of a history.
use Rattle.std.specs.Prelude.{◌≡◌, ℕ, suc, ◌^◌, ◌<◌, ◌≤◌, Bool, true, false, cond, not, ◌&&◌, ◌⊎◌, List, is_some, Some, Option, ◌==◌, ◌≢◌, nat_lt}
use Rattle.std.specs.List.{AllByRecursion, list_any}
use Rattle.notes.specs.Sets.{has, low}
use Rattle.cards.specs.Cards.{CardState, crashed_in, suspects_in, SoundCards}
use Rattle.tables.specs.Tables.{Shaped, ballot_in}
use Rattle.wire.specs.declared.Item.{Item}
use Rattle.histories.specs.Histories.{Past, Fates, History}
use Rattle.histories.specs.Moves.{heard_of}
use Rattle.flooding.specs.Seats.{seat_in}
use Rattle.flooding.specs.declared.seats.Seat.{Seat}
use Rattle.flooding.specs.declared.mail.Load.{Load}
use Rattle.flooding.specs.Flooding.{FloodingState, proposal_of, may_move}

abbrev pub fates_of : CardState → Fates
fates_of c = record { runs = λ p. not (crashed_in c p); suspects = suspects_in c }

-- The round of a card as its history counts it: one beyond the last once it has decided.
abbrev pub stage_from : ℕ → Option ℕ → Seat → ℕ
stage_from n d s = cond (is_some d) (suc n) s.round

-- The seat of card p holds what the history says of its round: whom it has counted, and what it has heard.
pub record Seated (n : ℕ) (h : Past) (p : ℕ) (s : Seat) : Type 0 where
  pub in_rounds : s.round ≤ n
  pub fits : s.known < 2 ^ 32
  pub counts : (y : ℕ) → y < n → has s.counted y ≡ h.counted p s.round y
  pub knows : (z : ℕ) → 1 ≤ s.round → has s.known z ≡ heard_of n h p s.round z

-- Card p stands in instance k where the history says: t are the proposals, d is its decision, s its seat.
pub record Stands (n : ℕ) (h : Past) (t : List (List (Option ℕ))) (k p : ℕ) (d : Option ℕ) (s : Seat) : Type 0 where
  pub stage : h.round p ≡ stage_from n d s
  pub proposed : is_some (ballot_in t k p) ≡ nat_lt 0 s.round
  pub seated : Seated n h p s
  pub self_counted : 0 < s.round → has s.counted p ≡ true
  pub decided : (v : ℕ) → d ≡ Some v → (s.round ≡ n) × (proposal_of t k (low s.known) ≡ Some v)

-- An item says what its sender knew on entering its round.
pub record Says (n : ℕ) (h : Past) (y : Item Load) : Type 0 where
  pub sender : y.from < n
  pub receiver : y.to < n
  pub others : y.to ≡ y.from → ⊥
  pub begun : 1 ≤ y.load.round
  pub last : y.load.round ≤ n
  pub entered : y.load.round ≤ h.round y.from
  pub knew : (z : ℕ) → has y.load.known z ≡ h.knew y.from y.load.round z
  pub fits : y.load.known < 2 ^ 32

-- It does so if it is of instance k.
abbrev pub SaysIn : ℕ → Past → ℕ → Item Load → Type 0
SaysIn n h k y = y.load.instance ≡ k → Says n h y

-- Whether an item is card p's to card q in round r of instance k.
abbrev pub brings : ℕ → ℕ → ℕ → ℕ → Item Load → Bool
brings k r p q y = (y.load.instance == k && y.load.round == r) && (y.from == p && y.to == q)

-- The state of instance k is that of a history.
pub record Tied (x : FloodingState) (k : ℕ) : Type 0 where
  pub past : Past
  pub history : History x.cards.count (fates_of x.cards) past
  pub stands : (p : ℕ) → p < x.cards.count → Stands x.cards.count past x.proposals k p (ballot_in x.decisions k p) (seat_in x.seats k p)
  pub wire_says : AllByRecursion (SaysIn x.cards.count past k) x.wire
  pub kept_says : AllByRecursion (SaysIn x.cards.count past k) x.kept
  -- what a running card has sent in a round that the running receiver has not left is under way, kept for that round, or counted
  pub due : (p q r : ℕ) → p < x.cards.count → q < x.cards.count → (q ≢ p) → crashed_in x.cards p ≡ false → crashed_in x.cards q ≡ false
      → 1 ≤ r → r ≤ x.cards.count → r ≤ past.round p → past.round q ≤ r
      → (list_any (brings k r p q) x.wire ≡ true) ⊎ (((past.round q < r) × (list_any (brings k r p q) x.kept ≡ true)) ⊎ (past.counted q r p ≡ true))

-- An item under way goes to a running card, in one of the instances.
pub record Underway (c : CardState) (y : Item Load) : Type 0 where
  pub instance_fits : y.load.instance < 32
  pub sender : y.from < c.count
  pub receiver : y.to < c.count
  pub up : crashed_in c y.to ≡ false

-- What holds also between two moves of a card.
pub record SoundFlooding (x : FloodingState) : Type 0 where
  pub sound : SoundCards x.cards
  pub proposals_shaped : Shaped x.proposals
  pub decisions_shaped : Shaped x.decisions
  pub seats_shaped : Shaped x.seats
  pub proposers : (k p : ℕ) → is_some (ballot_in x.proposals k p) ≡ true → p < x.cards.count
  pub deciders : (k p : ℕ) → is_some (ballot_in x.decisions k p) ≡ true → p < x.cards.count
  pub proposed_sets : (k p s : ℕ) → ballot_in x.proposals k p ≡ Some s → (0 < s) × (s < 2 ^ 32)
  pub items : AllByRecursion (Underway x.cards) x.wire
  pub tied : (k : ℕ) → k < 32 → Tied x k

pub record MadeFlooding (x : FloodingState) : Type 0 where
  pub whole : SoundFlooding x
  -- between the calls no running card can move
  pub settled : (k p : ℕ) → k < 32 → crashed_in x.cards p ≡ false → may_move x k p ≡ false

-- Flooding: what its state holds, what is seen of it, and what each accepted call makes of it.
use Rattle.std.specs.Prelude.{ℕ, zero, suc, ◌+◌, ◌-◌, ◌*◌, Bool, cond, not, ◌&&◌, ◌||◌, List, [], ◌∷◌, ◌++◌, length, is_some, Some, None, Option, ◌==◌, nat_lt}
use Rattle.std.specs.List.{slice_get, remove}
use Rattle.notes.specs.Sets.{added, low, total}
use Rattle.parts.specs.Views.{ConsensusView}
use Rattle.parts.specs.Deciding.{consensus_view}
use Rattle.cards.specs.Cards.{CardState, crashed_in, suspects_in, new_cards, with_crash, with_suspicion}
use Rattle.tables.specs.Tables.{new_ballots, ballot_in, with_ballot}
use Rattle.wire.specs.Wires.{senders, sent, without_to}
use Rattle.wire.specs.declared.Item.{Item}
use Rattle.flooding.specs.Seats.{new_seats, seat_in, with_seat, entering, hearing, ready}
use Rattle.flooding.specs.declared.seats.Seat.{Seat}
use Rattle.flooding.specs.Mail.{telling, taking_in, still_kept}
use Rattle.flooding.specs.declared.mail.Load.{Load}

-- `kept` are the items that came before their round: they wait there until their receiver enters it.
pub record FloodingState : Type 0 where
  pub cards : CardState
  pub proposals : List (List (Option ℕ))
  pub decisions : List (List (Option ℕ))
  pub seats : List (List Seat)
  pub wire : List (Item Load)
  pub kept : List (Item Load)

-- What is seen.

abbrev pub flooding_cards : FloodingState → ℕ
flooding_cards x = x.cards.count

abbrev pub flooding_crashed : FloodingState → ℕ → Bool
flooding_crashed x = crashed_in x.cards

abbrev pub flooding_suspects : FloodingState → ℕ → ℕ → Bool
flooding_suspects x = suspects_in x.cards

abbrev pub flooding_wire : FloodingState → List ℕ
flooding_wire x = senders x.wire

abbrev pub flooding_proposal : FloodingState → ℕ → ℕ → Option ℕ
flooding_proposal x = ballot_in x.proposals

abbrev pub flooding_decision : FloodingState → ℕ → ℕ → Option ℕ
flooding_decision x = ballot_in x.decisions

-- A running card in round r of n may enter n - r rounds more, and sends at most n - 1 items in each.
abbrev pub to_send : CardState → Seat → ℕ → ℕ
to_send c s p = cond (not (crashed_in c p) && nat_lt 0 s.round) ((c.count - 1) * (c.count - s.round)) 0

-- Each item under way is carried or lost once, and so is each that is still to be sent.
abbrev pub flooding_work : FloodingState → ℕ
flooding_work x = length x.wire + total (λ k. total (λ p. to_send x.cards (seat_in x.seats k p) p) x.cards.count) 32

abbrev pub seen : FloodingState → ConsensusView
seen = consensus_view flooding_cards flooding_crashed flooding_suspects flooding_wire flooding_work flooding_proposal flooding_decision

-- What is made.

abbrev pub new_flooding : ℕ → FloodingState
new_flooding n = record { cards = new_cards n; proposals = new_ballots; decisions = new_ballots; seats = new_seats; wire = []; kept = [] }

abbrev pub seat_on : FloodingState → ℕ → ℕ → Seat → FloodingState
seat_on x k q s = record { cards = x.cards; proposals = x.proposals; decisions = x.decisions; seats = with_seat x.seats k q s; wire = x.wire; kept = x.kept }

-- Card q takes its seat in round r of instance k: it has counted only itself.
abbrev pub sit_on : FloodingState → ℕ → ℕ → ℕ → ℕ → FloodingState
sit_on x k q r known = seat_on x k q (entering q r known)

-- It sends what it knows to every other card.
abbrev pub tell_on : FloodingState → ℕ → ℕ → FloodingState
tell_on x k q =
    record {
      cards = x.cards;
      proposals = x.proposals;
      decisions = x.decisions;
      seats = x.seats;
      wire = x.wire ++ sent x.cards q (telling x.seats k q) x.cards.count;
      kept = x.kept;
    }

-- It takes in what was kept for its round, and that is kept no longer: a card enters a round once.
abbrev pub take_in_on : FloodingState → ℕ → ℕ → FloodingState
take_in_on x k q =
    record {
      cards = x.cards;
      proposals = x.proposals;
      decisions = x.decisions;
      seats = with_seat x.seats k q (taking_in x.cards k q (seat_in x.seats k q) x.kept);
      wire = x.wire;
      kept = still_kept k (seat_in x.seats k q).round q x.kept;
    }

-- A card that enters a round sends first, then takes in.
abbrev pub enter_on : FloodingState → ℕ → ℕ → ℕ → ℕ → FloodingState
enter_on x k q r known = take_in_on (tell_on (sit_on x k q r known) k q) k q

-- The proposal of the lowest of some cards.
abbrev pub proposal_of : List (List (Option ℕ)) → ℕ → Option ℕ → Option ℕ
proposal_of t k None = None
proposal_of t k (Some p) = ballot_in t k p

abbrev pub decide_on : FloodingState → ℕ → ℕ → FloodingState
decide_on x k q =
    record {
      cards = x.cards;
      proposals = x.proposals;
      decisions = with_ballot x.decisions k q (proposal_of x.proposals k (low (seat_in x.seats k q).known));
      seats = x.seats;
      wire = x.wire;
      kept = x.kept;
    }

-- A card moves on that has proposed, has not decided, and has counted every card that it does not suspect.
abbrev pub may_move : FloodingState → ℕ → ℕ → Bool
may_move x k q = nat_lt q x.cards.count && (not (is_some (ballot_in x.decisions k q)) && ready x.cards q (seat_in x.seats k q))

-- From the last round it decides, from any other it enters the next.
abbrev pub move_on : FloodingState → ℕ → ℕ → FloodingState
move_on x k q = cond (nat_lt (seat_in x.seats k q).round x.cards.count) (enter_on x k q ((seat_in x.seats k q).round + 1) (seat_in x.seats k q).known) (decide_on x k q)

abbrev pub step_on : FloodingState → ℕ → ℕ → FloodingState
step_on x k q = cond (may_move x k q) (move_on x k q) x

unfoldable pub steps_on : FloodingState → ℕ → ℕ → ℕ → FloodingState
steps_on x k q zero = x
steps_on x k q (suc m) = step_on (steps_on x k q m) k q

-- It moves as often as it can: there are n rounds, and the decision.
abbrev pub settle_on : FloodingState → ℕ → ℕ → FloodingState
settle_on x k q = steps_on x k q x.cards.count

abbrev pub put_forward : FloodingState → ℕ → ℕ → ℕ → FloodingState
put_forward x k p s = record { cards = x.cards; proposals = with_ballot x.proposals k p (Some s); decisions = x.decisions; seats = x.seats; wire = x.wire; kept = x.kept }

-- A proposer knows itself and enters round 1.
abbrev pub propose_on : FloodingState → ℕ → ℕ → ℕ → FloodingState
propose_on x k p s = settle_on (enter_on (put_forward x k p s) k p 1 (added 0 p)) k p

abbrev pub keep_on : FloodingState → Item Load → FloodingState
keep_on x y = record { cards = x.cards; proposals = x.proposals; decisions = x.decisions; seats = x.seats; wire = x.wire; kept = x.kept ++ y ∷ [] }

abbrev pub hear_on : FloodingState → Item Load → FloodingState
hear_on x y = seat_on x y.load.instance y.to (hearing x.cards y.to y.from y.load.known (seat_in x.seats y.load.instance y.to))

-- Nothing happens to a card that has decided, nor by an item from a card that it suspects. An item of a later round is kept; one of
-- its own round is heard, and the card moves as often as it can; one of a past round does nothing.
abbrev pub arrive_on : FloodingState → Item Load → FloodingState
arrive_on x y =
    cond (is_some (ballot_in x.decisions y.load.instance y.to) || suspects_in x.cards y.to y.from) x
    (cond (nat_lt (seat_in x.seats y.load.instance y.to).round y.load.round) (keep_on x y)
    (cond ((seat_in x.seats y.load.instance y.to).round == y.load.round) (settle_on (hear_on x y) y.load.instance y.to) x))

abbrev pub arrive_by : FloodingState → Option (Item Load) → FloodingState
arrive_by x None = x
arrive_by x (Some y) = arrive_on x y

abbrev pub lose_on : FloodingState → ℕ → FloodingState
lose_on x i = record { cards = x.cards; proposals = x.proposals; decisions = x.decisions; seats = x.seats; wire = remove x.wire i; kept = x.kept }

abbrev pub carry_on : FloodingState → ℕ → FloodingState
carry_on x i = arrive_by (lose_on x i) (slice_get x.wire i)

abbrev pub crash_on : FloodingState → ℕ → FloodingState
crash_on x p = record { cards = with_crash x.cards p; proposals = x.proposals; decisions = x.decisions; seats = x.seats; wire = without_to p x.wire; kept = x.kept }

-- The first m instances, ascending.
unfoldable pub through_on : FloodingState → ℕ → ℕ → FloodingState
through_on x q zero = x
through_on x q (suc m) = settle_on (through_on x q m) m q

abbrev pub doubt_on : FloodingState → ℕ → ℕ → FloodingState
doubt_on x q p = record { cards = with_suspicion x.cards q p; proposals = x.proposals; decisions = x.decisions; seats = x.seats; wire = x.wire; kept = x.kept }

abbrev pub suspect_on : FloodingState → ℕ → ℕ → FloodingState
suspect_on x q p = through_on (doubt_on x q p) q 32

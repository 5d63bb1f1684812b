-- What a card's moves change, however many it makes, in whichever instances: seats, the wire, and its own decisions where it had none.
use Rattle.std.specs.Prelude.{◌≡◌, ℕ, zero, suc, ◌<◌, ◌≤◌, false, cond, ◌&&◌, ◌||◌, List, is_some, Some, None, Option, ◌==◌, ◌≢◌, nat_lt, refl}
use Rattle.std.proofs.Common.{sym, ap, subst, ◌∙◌, ⊎_elim, arith}
use borrow.Author.Tests.{clash}
use Rattle.std.proofs.lemmas.Bool.{cases_Bool, cond-false, cond_both, and_parts, eqb-true}
use Rattle.cards.specs.Cards.{crashed_in, suspects_in}
use Rattle.tables.specs.Tables.{Shaped, ballot_in, with_ballot}
use Rattle.wire.specs.declared.Item.{Item}
use Rattle.tables.proofs.Written.{place_written, shaped_after}
use Rattle.flooding.specs.Seats.{no_seat, seat_in, with_seat, hearing}
use Rattle.flooding.specs.declared.seats.Seat.{Seat}
use Rattle.flooding.specs.declared.mail.Load.{Load}
use Rattle.flooding.specs.Flooding.{FloodingState, flooding_work, step_on, steps_on, settle_on, through_on, keep_on, hear_on, arrive_on}
use Rattle.flooding.specs.Mails.{hearing_round}
use Rattle.flooding.specs.Works.{same_rounds, may_move_means, after_turn, step_work, step_cards, step_proposals, step_seats}

-- A table of decisions, after decisions of card q alone, none of them where one stood.
pub record DecidedBy (q : ℕ) (t u : List (List (Option ℕ))) : Type 0 where
  pub shaped : Shaped u
  pub stand : (k p s : ℕ) → ballot_in t k p ≡ Some s → ballot_in u k p ≡ Some s
  pub others : (k p : ℕ) → (p ≢ q) → ballot_in u k p ≡ ballot_in t k p

-- A state, after moves of card q alone.
pub record MovedBy (q : ℕ) (x y : FloodingState) : Type 0 where
  pub cards : y.cards ≡ x.cards
  pub proposals : y.proposals ≡ x.proposals
  pub seats_shaped : Shaped y.seats
  pub decided : DecidedBy q x.decisions y.decisions
  pub work : flooding_work y ≤ flooding_work x

-- Card q runs, and the tables have their shapes.
pub record Placed (x : FloodingState) (q : ℕ) : Type 0 where
  pub seats_shaped : Shaped x.seats
  pub decisions_shaped : Shaped x.decisions
  pub few : x.cards.count ≤ 6
  pub card : q < x.cards.count
  pub up : crashed_in x.cards q ≡ false

none_decided : (q : ℕ) (t : List (List (Option ℕ))) → Shaped t → DecidedBy q t t
none_decided q t g = record { shaped = g; stand = λ k p s e. e; others = λ k p d. refl }

not_moved : (q : ℕ) (x : FloodingState) → Placed x q → MovedBy q x x
not_moved q x a = record { cards = refl; proposals = refl; seats_shaped = a.seats_shaped; decided = none_decided q x.decisions a.decisions_shaped; work = omega arith }

moved_then : (q : ℕ) (x y z : FloodingState) → MovedBy q x y → MovedBy q y z → MovedBy q x z
moved_then q x y z a b =
    record {
      cards = b.cards ∙ a.cards;
      proposals = b.proposals ∙ a.proposals;
      seats_shaped = b.seats_shaped;
      decided = record {
        shaped = b.decided.shaped;
        stand = λ k p s e. b.decided.stand k p s (a.decided.stand k p s e);
        others = λ k p d. b.decided.others k p d ∙ a.decided.others k p d;
      };
      work = omega (arith, a.work, b.work);
    }

placed_after : (q : ℕ) (x y : FloodingState) → Placed x q → MovedBy q x y → Placed y q
placed_after q x y a m =
    record {
      seats_shaped = m.seats_shaped;
      decisions_shaped = m.decided.shaped;
      few = subst (λ c. c.count ≤ 6) (sym m.cards) a.few;
      card = subst (λ c. q < c.count) (sym m.cards) a.card;
      up = ap (λ c. crashed_in c q) m.cards ∙ a.up;
    }

-- A decision, where there was none.
decision_decides : (t : List (List (Option ℕ))) (k q : ℕ) (o : Option ℕ) → Shaped t → k < 32 → q < 6 → is_some (ballot_in t k q) ≡ false → DecidedBy q t (with_ballot t k q o)
decision_decides t k q o g hk hq none =
    let at : (j p : ℕ) → ballot_in (with_ballot t k q o) j p ≡ cond (j == k && p == q) o (ballot_in t j p) =
    λ j p. place_written t k q j p o None g hk hq in
    record {
      shaped = shaped_after t k q o g hk;
      stand = λ j p s e.
          at j p
          ∙ ⊎_elim
          (λ b. let h = and_parts (j == k) (p == q) b in absurd (clash (sym none ∙ ap (λ i. is_some (ballot_in t i q)) (sym (eqb-true j k h.0)) ∙ ap (λ i. is_some (ballot_in t j i)) (sym (eqb-true p q h.1)) ∙ ap is_some e)))
          (λ b. cond-false _ _ _ b ∙ e)
          (cases_Bool (j == k && p == q));
      others = λ j p d. at j p ∙ ⊎_elim (λ b. absurd (d (eqb-true p q (and_parts (j == k) (p == q) b).1))) (λ b. cond-false _ _ _ b) (cases_Bool (j == k && p == q));
    }

step_decides : (x : FloodingState) (k q : ℕ) → Placed x q → k < 32 → DecidedBy q x.decisions (step_on x k q).decisions
step_decides x k q a hk =
    let same = none_decided q x.decisions a.decisions_shaped in
    after_turn x k q (λ y. DecidedBy q x.decisions y.decisions) (λ _ _. same)
    (λ m. decision_decides x.decisions k q _ a.decisions_shaped hk (omega (arith, a.few, a.card)) (may_move_means x k q m).1)
    same

step_moved : (x : FloodingState) (k q : ℕ) → Placed x q → k < 32 → MovedBy q x (step_on x k q)
step_moved x k q a hk =
    record {
      cards = step_cards x k q;
      proposals = step_proposals x k q;
      seats_shaped = step_seats x k q a.seats_shaped hk;
      decided = step_decides x k q a hk;
      work = step_work x k q a.seats_shaped hk a.few a.card a.up;
    }

pub steps_moved : (x : FloodingState) (k q m : ℕ) → Placed x q → k < 32 → MovedBy q x (steps_on x k q m)
unfolding steps_on
steps_moved x k q zero a hk = not_moved q x a
steps_moved x k q (suc m) a hk =
    let y = steps_on x k q m in
    let h = steps_moved x k q m a hk in
    moved_then q x y (step_on y k q) h (step_moved y k q (placed_after q x y a h) hk)

pub through_moved : (x : FloodingState) (q m : ℕ) → Placed x q → m ≤ 32 → MovedBy q x (through_on x q m)
unfolding through_on
through_moved x q zero a l = not_moved q x a
through_moved x q (suc m) a l =
    let y = through_on x q m in
    let h = through_moved x q m a (omega arith) in
    moved_then q x y (settle_on y m q) h (steps_moved y m q y.cards.count (placed_after q x y a h) (omega arith))

-- An item that has come.

-- Hearing leaves every round.
hear_moved : (x : FloodingState) (y : Item Load) → Placed x y.to → y.load.instance < 32 → MovedBy y.to x (hear_on x y)
hear_moved x y a hk =
    let c = x.cards in
    let k = y.load.instance in
    let q = y.to in
    let t = x.seats in
    let s : Seat = hearing c q y.from y.load.known (seat_in t k q) in
    let g = a.seats_shaped in
    let rounds : (j p : ℕ) → (seat_in (with_seat t k q s) j p).round ≡ (seat_in t j p).round =
    λ j p.
    ap (λ (z : Seat). z.round) (place_written t k q j p s no_seat g hk (omega (arith, a.few, a.card)))
    ∙ cond_both (j == k && p == q) s (seat_in t j p) (λ z. z.round ≡ (seat_in t j p).round)
    (λ b.
    let h = and_parts (j == k) (p == q) b in
    hearing_round c q y.from y.load.known (seat_in t k q) ∙ ap (λ i. (seat_in t i q).round) (sym (eqb-true j k h.0)) ∙ ap (λ i. (seat_in t j i).round) (sym (eqb-true p q h.1)))
    (λ _. refl) in
    record {
      cards = refl;
      proposals = refl;
      seats_shaped = shaped_after t k q s g hk;
      decided = none_decided q x.decisions a.decisions_shaped;
      work = omega (arith, same_rounds c t (with_seat t k q s) rounds);
    }

-- An item does what it does to its receiver alone.
pub arrive_moved : (x : FloodingState) (y : Item Load) → Placed x y.to → y.load.instance < 32 → MovedBy y.to x (arrive_on x y)
arrive_moved x y a hk =
    let k = y.load.instance in
    let q = y.to in
    let heard = hear_moved x y a hk in
    let keeps : MovedBy q x (keep_on x y) = record { cards = refl; proposals = refl; seats_shaped = a.seats_shaped; decided = none_decided q x.decisions a.decisions_shaped; work = omega arith } in
    cond_both (is_some (ballot_in x.decisions k q) || suspects_in x.cards q y.from) x _ (MovedBy q x)
    (λ _. not_moved q x a)
    (λ _.
    cond_both (nat_lt (seat_in x.seats k q).round y.load.round) (keep_on x y) _ (MovedBy q x)
    (λ _. keeps)
    (λ _.
    cond_both ((seat_in x.seats k q).round == y.load.round) (settle_on (hear_on x y) k q) x (MovedBy q x)
    (λ _. moved_then q x (hear_on x y) (settle_on (hear_on x y) k q) heard (steps_moved (hear_on x y) k q x.cards.count (placed_after q x (hear_on x y) a heard) hk))
    (λ _. not_moved q x a)))

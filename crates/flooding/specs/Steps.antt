-- A card moves as often as it can: then the state holds together, the card cannot move any more, and whether another can is as before.
use Rattle.std.specs.Prelude.{◌≡◌, ℕ, zero, suc, ◌+◌, ◌<◌, ◌≤◌, true, false, not, ◌&&◌, ◌⊎◌, is_some, None, Option, ◌≢◌, nat_lt, refl}
use Rattle.std.proofs.Common.{sym, ap, subst, ◌∙◌, inl, inr, ⊎_elim, arith}
use Rattle.std.proofs.lemmas.Bool.{cases_Bool, cases_eq, both_ways, cond_both, cond-true, cond-false, ltb-true, ltb-false}
use Rattle.notes.specs.Sets.{low}
use Rattle.cards.specs.Cards.{CardState, Running}
use Rattle.tables.specs.Tables.{Shaped, ballot_in, with_ballot}
use Rattle.flooding.specs.Seats.{no_seat, seat_in, ready}
use Rattle.flooding.specs.declared.seats.Seat.{Seat}
use Rattle.flooding.specs.Flooding.{FloodingState, seat_on, enter_on, decide_on, proposal_of, may_move, move_on, step_on, steps_on, settle_on, through_on}
use Rattle.flooding.specs.Made.{stage_from, SoundFlooding}
use Rattle.flooding.specs.Works.{cell_same, cell_other, may_move_means, after_turn, enter_round, enter_other, step_cards}
use Rattle.flooding.specs.Actions.{Elsewhere}
use Rattle.flooding.specs.Enters.{next_whole, choice, decide_whole}

-- Whether a card may move depends on its seat and its decision.
pub seat_stays : (x : FloodingState) (k q j p : ℕ) (s : Seat) → SoundFlooding x → k < 32 → q < x.cards.count → Elsewhere k q j p → may_move (seat_on x k q s) j p ≡ may_move x j p
seat_stays x k q j p s g hk bq e =
    ap (λ u. nat_lt p x.cards.count && (not (is_some (ballot_in x.decisions j p)) && ready x.cards p u)) (cell_other x.seats k q j p s no_seat g.seats_shaped hk (omega (arith, g.sound.few)) e)

pub enter_stays : (x : FloodingState) (k q : ℕ) → Shaped x.seats → k < 32 → q < 6 → (r known j p : ℕ) → Elsewhere k q j p → may_move (enter_on x k q r known) j p ≡ may_move x j p
enter_stays x k q g hk six r known j p e =
    ap (λ u. nat_lt p x.cards.count && (not (is_some (ballot_in x.decisions j p)) && ready x.cards p u)) (enter_other x k q g hk six r known j p e)

abbrev stage_of : FloodingState → ℕ → ℕ → ℕ
stage_of x k p = stage_from x.cards.count (ballot_in x.decisions k p) (seat_in x.seats k p)

-- One move takes the card one stage further.
module _ (x : FloodingState) (k q : ℕ) (g : SoundFlooding x) (hk : k < 32) (u : Running x.cards q) where
  abbrev round : ℕ
  round = (seat_in x.seats k q).round

  six : q < 6
  six = omega (arith, u.0, g.sound.few)

  moves : may_move x k q ≡ true → SoundFlooding (move_on x k q) × (stage_of (move_on x k q) k q ≡ suc (stage_of x k q))
  moves m =
      let n : ℕ = x.cards.count in
      let o = may_move_means x k q m in
      let stage : stage_of x k q ≡ round = cond-false _ _ _ o.1 in
      let known : ℕ = (seat_in x.seats k q).known in
      cond_both (nat_lt round n) (enter_on x k q (round + 1) known) (decide_on x k q) (λ y. SoundFlooding y × (stage_of y k q ≡ suc (stage_of x k q)))
      (λ l. (
        next_whole x k q g hk u.0 u.1 m (ltb-true _ _ l),
        cond-false _ (suc n) (seat_in (enter_on x k q (round + 1) known).seats k q).round o.1 ∙ enter_round x k q g.seats_shaped hk six (round + 1) known ∙ omega arith,
      ))
      (λ l.
      let e : round ≡ n = omega (arith, ltb-false _ _ l, ((g.tied k hk).stands q u.0).seated.in_rounds) in
      let v : Option ℕ = proposal_of x.proposals k (low known) in (
        decide_whole x k q g hk u.0 u.1 m e,
        cond-true (is_some (ballot_in (with_ballot x.decisions k q v) k q)) (suc n) round (ap is_some (cell_same x.decisions k q v None g.decisions_shaped hk six ∙ (choice x k q g hk u.0 u.1 m e).1)) ∙ omega arith,
      ))

  step_stays : (j p : ℕ) → Elsewhere k q j p → may_move (step_on x k q) j p ≡ may_move x j p
  step_stays j p e =
      let known : ℕ = (seat_in x.seats k q).known in
      after_turn x k q (λ y. may_move y j p ≡ may_move x j p)
      (λ _ _. enter_stays x k q g.seats_shaped hk six (round + 1) known j p e)
      (λ _. ap (λ v. nat_lt p x.cards.count && (not (is_some v) && ready x.cards p (seat_in x.seats j p))) (cell_other x.decisions k q j p (proposal_of x.proposals k (low known)) None g.decisions_shaped hk six e))
      refl

-- What card q's moves in instance k make of x, and how far they get.
pub record Stepped (x y : FloodingState) (k q : ℕ) (Far : Type 0) : Type 0 where
  pub whole : SoundFlooding y
  pub same_cards : y.cards ≡ x.cards
  pub stays : (j p : ℕ) → Elsewhere k q j p → may_move y j p ≡ may_move x j p
  pub far : Far

running_on : (x y : FloodingState) (q : ℕ) → y.cards ≡ x.cards → Running x.cards q → Running y.cards q
running_on x y q e u = subst (λ c. Running c q) (sym e) u

-- After m moves the card cannot move any more, or has come to a stage beyond m.
stepped : (x : FloodingState) (k q m : ℕ) → SoundFlooding x → k < 32 → Running x.cards q → Stepped x (steps_on x k q m) k q ((may_move (steps_on x k q m) k q ≡ false) ⊎ (m < stage_of (steps_on x k q m) k q))
unfolding steps_on
stepped x k q zero g hk u =
    record {
      whole = g;
      same_cards = refl;
      stays = λ j p e. refl;
      far = ⊎_elim (λ t. let o = may_move_means x k q t in inr (omega (arith, o.2, cond-false (is_some (ballot_in x.decisions k q)) (suc x.cards.count) (seat_in x.seats k q).round o.1))) (λ t. inl t) (cases_Bool (may_move x k q));
    }
stepped x k q (suc m) g hk u =
    let y = steps_on x k q m in
    let b = stepped x k q m g hk u in
    let v = running_on x y q b.same_cards u in
    record {
      whole = cond_both (may_move y k q) (move_on y k q) y SoundFlooding (λ t. (moves y k q b.whole hk v t).0) (λ _. b.whole);
      same_cards = step_cards y k q ∙ b.same_cards;
      stays = λ j p e. step_stays y k q b.whole hk v j p e ∙ b.stays j p e;
      far =
          ⊎_elim
          (λ t. inr (let e : stage_of (step_on y k q) k q ≡ suc (stage_of y k q) = ap (λ z. stage_of z k q) (cond-true (may_move y k q) (move_on y k q) y t) ∙ (moves y k q b.whole hk v t).1 in
          ⊎_elim (λ f. absurd (both_ways (may_move y k q) f t)) (λ f. omega arith) b.far))
          (λ f. inl (ap (λ z. may_move z k q) (cond-false (may_move y k q) (move_on y k q) y f) ∙ f))
          (cases_Bool (may_move y k q));
    }

-- There are n rounds and the decision, and the card begins at stage 1 or beyond.
pub settles : (x : FloodingState) (k q : ℕ) → SoundFlooding x → k < 32 → Running x.cards q → Stepped x (settle_on x k q) k q (may_move (settle_on x k q) k q ≡ false)
settles x k q g hk u =
    let y = settle_on x k q in
    let b = stepped x k q x.cards.count g hk u in
    record {
      whole = b.whole;
      same_cards = b.same_cards;
      stays = b.stays;
      far =
          ⊎_elim
          (λ t.
          let e : stage_of y k q ≡ (seat_in y.seats k q).round = cond-false _ _ _ (may_move_means y k q t).1 in
          let n : y.cards.count ≡ x.cards.count = ap (λ (c : CardState). c.count) b.same_cards in
          let l = ((b.whole.tied k hk).stands q (running_on x y q b.same_cards u).0).seated.in_rounds in
          ⊎_elim (λ f. f) (λ f. absurd (omega arith)) b.far)
          (λ f. f)
          (cases_Bool (may_move y k q));
    }

-- It moves on in one instance after the other.
pub record Through (x y : FloodingState) (q m : ℕ) : Type 0 where
  pub whole : SoundFlooding y
  pub same_cards : y.cards ≡ x.cards
  pub stays : (j p : ℕ) → (p ≢ q) → may_move y j p ≡ may_move x j p
  pub ends : (j : ℕ) → j < m → may_move y j q ≡ false

pub goes_through : (x : FloodingState) (q m : ℕ) → SoundFlooding x → Running x.cards q → m ≤ 32 → Through x (through_on x q m) q m
unfolding through_on
goes_through x q zero g u l = record { whole = g; same_cards = refl; stays = λ j p e. refl; ends = λ j b. absurd (omega arith) }
goes_through x q (suc m) g u l =
    let y = through_on x q m in
    let b = goes_through x q m g u (omega arith) in
    let s = settles y m q b.whole (omega arith) (running_on x y q b.same_cards u) in
    record {
      whole = s.whole;
      same_cards = s.same_cards ∙ b.same_cards;
      stays = λ j p e. s.stays j p (λ i. e i.1) ∙ b.stays j p e;
      ends = λ j h. ⊎_elim (λ (e : j ≡ m). subst (λ i. may_move (settle_on y m q) i q ≡ false) (sym e) s.far) (λ e. s.stays j q (λ i. e i.0) ∙ b.ends j (omega (arith, e))) (cases_eq j m);
    }

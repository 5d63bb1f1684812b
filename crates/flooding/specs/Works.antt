-- A move does not raise the work: what entering a round sends, it had still to send.
use Rattle.std.specs.Prelude.{◌≡◌, ℕ, suc, ◌+◌, ◌-◌, ◌*◌, ◌<◌, ◌≤◌, true, false, cond, not, ◌&&◌, List, [], is_some, ◌==◌, nat_lt, slice_index_or, slice_set, refl}
use Rattle.std.proofs.Common.{ap, ◌∙◌, ⊎_elim, arith}
use Rattle.std.proofs.lemmas.List.{length-append}
use Rattle.std.proofs.lemmas.Bool.{cases_Bool, cond-true, cond-false, cond_both, and_parts, and_from, eqb-true, eq-eqb, ltb-true, lt-ltb, not_from_false, not-true}
use Rattle.notes.specs.Sets.{total}
use Rattle.notes.proofs.Counting.{total_le, total_trade}
use Rattle.tables.specs.Tables.{Shaped, ballot_in}
use Rattle.cards.specs.Cards.{CardState, crashed_in}
use Rattle.wire.specs.Wires.{sent}
use Rattle.tables.proofs.Written.{place_written, shaped_after}
use Rattle.wire.proofs.Wires.{length_sent_others}
use Rattle.flooding.specs.Seats.{no_seat, seat_in, with_seat, entering, all_counted}
use Rattle.flooding.specs.declared.seats.Seat.{Seat}
use Rattle.flooding.specs.Mail.{telling, taking_in}
use Rattle.flooding.specs.declared.mail.Load.{Load}
use Rattle.flooding.specs.Flooding.{FloodingState, to_send, flooding_work, enter_on, decide_on, may_move, move_on, step_on}
use Rattle.flooding.specs.Mails.{taking_round}

-- A table, after one cell is written.

pub cell_same : {X : Type 0} (t : List (List X)) (k q : ℕ) (v d : X) → Shaped t → k < 32 → q < 6 → slice_index_or (slice_index_or (slice_set t k (slice_set (slice_index_or t k []) q v)) k []) q d ≡ v
cell_same t k q v d g hk hq =
    place_written t k q k q v d g hk hq ∙ cond-true _ _ _ (and_from _ _ (eq-eqb k k refl) (eq-eqb q q refl))

pub cell_other : {X : Type 0} (t : List (List X)) (k q j p : ℕ) (v d : X) → Shaped t → k < 32 → q < 6 → ((j ≡ k) × (p ≡ q) → ⊥) → slice_index_or (slice_index_or (slice_set t k (slice_set (slice_index_or t k []) q v)) j []) p d ≡ slice_index_or (slice_index_or t j []) p d
cell_other t k q j p v d g hk hq e =
    place_written t k q j p v d g hk hq
    ∙ ⊎_elim (λ b. absurd (let h = and_parts (j == k) (p == q) b in e (eqb-true j k h.0, eqb-true p q h.1))) (λ b. cond-false _ _ _ b) (cases_Bool (j == k && p == q))

-- What a running card in round r still has to send.
sends : (c : CardState) (s : Seat) (p : ℕ) → crashed_in c p ≡ false → 0 < s.round → to_send c s p ≡ (c.count - 1) * (c.count - s.round)
sends c s p u o = cond-true _ _ _ (and_from _ _ (not_from_false _ u) (lt-ltb 0 s.round o))

one_round_less : (w n r : ℕ) → r < n → w * (n - (r + 1)) + w ≡ w * (n - r)
one_round_less w n r l =
    let d : ℕ = n - (r + 1) in
    let e : n - r ≡ suc d = omega arith in
    rw e (omega arith)

-- Where every round stays, so does all that is still to be sent.
pub same_rounds : (c : CardState) (t u : List (List Seat)) → ((k p : ℕ) → (seat_in u k p).round ≡ (seat_in t k p).round)
    → total (λ k. total (λ p. to_send c (seat_in u k p) p) c.count) 32 ≤ total (λ k. total (λ p. to_send c (seat_in t k p) p) c.count) 32
same_rounds c t u h =
    total_le (λ k. total (λ p. to_send c (seat_in u k p) p) c.count) (λ k. total (λ p. to_send c (seat_in t k p) p) c.count) 32
    (λ k _.
    total_le (λ p. to_send c (seat_in u k p) p) (λ p. to_send c (seat_in t k p) p) c.count
    (λ p _. let e : to_send c (seat_in u k p) p ≡ to_send c (seat_in t k p) p = ap (λ r. cond (not (crashed_in c p) && nat_lt 0 r) ((c.count - 1) * (c.count - r)) 0) (h k p) in omega arith))

-- What a card that may move has.
pub may_move_means : (x : FloodingState) (k q : ℕ) → may_move x k q ≡ true
    → (q < x.cards.count) × (is_some (ballot_in x.decisions k q) ≡ false) × (0 < (seat_in x.seats k q).round) × (all_counted x.cards q (seat_in x.seats k q) x.cards.count ≡ true)
may_move_means x k q m =
    let n : ℕ = x.cards.count in
    let s : Seat = seat_in x.seats k q in
    let a = and_parts (nat_lt q n) (not (is_some (ballot_in x.decisions k q)) && (nat_lt 0 s.round && all_counted x.cards q s n)) m in
    let b = and_parts (not (is_some (ballot_in x.decisions k q))) (nat_lt 0 s.round && all_counted x.cards q s n) a.1 in
    let c = and_parts (nat_lt 0 s.round) (all_counted x.cards q s n) b.1 in
    (ltb-true _ _ a.0, not-true _ b.0, ltb-true _ _ c.0, c.1)

-- What holds after entering the next round, after deciding and with no move, holds after a turn.
pub after_turn : (x : FloodingState) (k q : ℕ) (P : FloodingState → Type 0)
    → (may_move x k q ≡ true → (seat_in x.seats k q).round < x.cards.count → P (enter_on x k q ((seat_in x.seats k q).round + 1) (seat_in x.seats k q).known))
    → (may_move x k q ≡ true → P (decide_on x k q))
    → P x → P (step_on x k q)
after_turn x k q P enters decides none =
    cond_both (may_move x k q) (move_on x k q) x P
    (λ m. cond_both (nat_lt (seat_in x.seats k q).round x.cards.count) _ (decide_on x k q) P (λ l. enters m (ltb-true _ _ l)) (λ _. decides m))
    (λ _. none)

-- Entering a round writes one seat.
module _ (x : FloodingState) (k q : ℕ) (g : Shaped x.seats) (hk : k < 32) (six : q < 6) (r known : ℕ) where
  abbrev first : List (List Seat)
  first = with_seat x.seats k q (entering q r known)

  abbrev last : Seat
  last = taking_in x.cards k q (seat_in first k q) x.kept

  entered_shaped : Shaped first
  entered_shaped = shaped_after x.seats k q (entering q r known) g hk

  pub enter_round : (seat_in (enter_on x k q r known).seats k q).round ≡ r
  enter_round =
      ap (λ (s : Seat). s.round) (cell_same first k q last no_seat entered_shaped hk six)
      ∙ taking_round x.cards k q (seat_in first k q) x.kept
      ∙ ap (λ (s : Seat). s.round) (cell_same x.seats k q (entering q r known) no_seat g hk six)

  pub enter_other : (j p : ℕ) → ((j ≡ k) × (p ≡ q) → ⊥) → seat_in (enter_on x k q r known).seats j p ≡ seat_in x.seats j p
  enter_other j p e = cell_other first k q j p last no_seat entered_shaped hk six e ∙ cell_other x.seats k q j p (entering q r known) no_seat g hk six e

module _ (x : FloodingState) (k q : ℕ) (g : Shaped x.seats) (hk : k < 32) (few : x.cards.count ≤ 6) (hq : q < x.cards.count) (up : crashed_in x.cards q ≡ false) where
  -- Entering round r sends at most n - 1 items, and leaves n - r rounds to enter.
  pub enter_work : (r known more : ℕ) → 0 < r → (x.cards.count - 1) * (x.cards.count - r) + (x.cards.count - 1) ≤ to_send x.cards (seat_in x.seats k q) q + more
      → flooding_work (enter_on x k q r known) ≤ flooding_work x + more
  enter_work r known more o bound =
      let c = x.cards in
      let n : ℕ = c.count in
      let six : q < 6 = omega arith in
      let seats : List (List Seat) = (enter_on x k q r known).seats in
      let other : (j p : ℕ) → ((j ≡ k) × (p ≡ q) → ⊥) → seat_in seats j p ≡ seat_in x.seats j p = enter_other x k q g hk six r known in
      let now : (seat_in seats k q).round ≡ r = enter_round x k q g hk six r known in
      let after : to_send c (seat_in seats k q) q ≡ (n - 1) * (n - r) = sends c (seat_in seats k q) q up (omega arith) ∙ ap (λ i. (n - 1) * (n - i)) now in
      let row : total (λ p. to_send c (seat_in seats k p) p) n + (n - 1) ≤ total (λ p. to_send c (seat_in x.seats k p) p) n + more =
      total_trade (λ p. to_send c (seat_in seats k p) p) (λ p. to_send c (seat_in x.seats k p) p) n q (n - 1) more hq
      (λ p _ d. let e : to_send c (seat_in seats k p) p ≡ to_send c (seat_in x.seats k p) p = ap (λ s. to_send c s p) (other k p (λ z. d z.1)) in omega arith) (omega arith) in
      let all : total (λ j. total (λ p. to_send c (seat_in seats j p) p) n) 32 + (n - 1) ≤ total (λ j. total (λ p. to_send c (seat_in x.seats j p) p) n) 32 + more =
      total_trade (λ j. total (λ p. to_send c (seat_in seats j p) p) n) (λ j. total (λ p. to_send c (seat_in x.seats j p) p) n) 32 k (n - 1) more hk
      (λ j _ d. total_le (λ p. to_send c (seat_in seats j p) p) (λ p. to_send c (seat_in x.seats j p) p) n
      (λ p _. let e : to_send c (seat_in seats j p) p ≡ to_send c (seat_in x.seats j p) p = ap (λ s. to_send c s p) (other j p (λ z. d z.0)) in omega arith)) row in
      let load : Load = telling (with_seat x.seats k q (entering q r known)) k q in
      omega (arith, all, length-append x.wire (sent c q load n), length_sent_others c q load n hq)

  -- From one round to the next, what is sent was still to be sent.
  next_work : (known : ℕ) → 0 < (seat_in x.seats k q).round → (seat_in x.seats k q).round < x.cards.count → flooding_work (enter_on x k q ((seat_in x.seats k q).round + 1) known) ≤ flooding_work x
  next_work known o l =
      let n : ℕ = x.cards.count in
      let r : ℕ = (seat_in x.seats k q).round in
      omega (arith, enter_work (r + 1) known 0 (omega arith) (omega (arith, one_round_less (n - 1) n r l, sends x.cards (seat_in x.seats k q) q up o)))

  pub step_work : flooding_work (step_on x k q) ≤ flooding_work x
  step_work =
      after_turn x k q (λ y. flooding_work y ≤ flooding_work x) (λ m l. next_work (seat_in x.seats k q).known (may_move_means x k q m).2 l) (λ _. omega arith) (omega arith)

-- What a move leaves as it was.

pub step_cards : (x : FloodingState) (k q : ℕ) → (step_on x k q).cards ≡ x.cards
step_cards x k q = after_turn x k q (λ y. y.cards ≡ x.cards) (λ _ _. refl) (λ _. refl) refl

pub step_proposals : (x : FloodingState) (k q : ℕ) → (step_on x k q).proposals ≡ x.proposals
step_proposals x k q = after_turn x k q (λ y. y.proposals ≡ x.proposals) (λ _ _. refl) (λ _. refl) refl

pub step_seats : (x : FloodingState) (k q : ℕ) → Shaped x.seats → k < 32 → Shaped (step_on x k q).seats
step_seats x k q g hk = after_turn x k q (λ y. Shaped y.seats) (λ _ _. shaped_after _ k q _ (shaped_after x.seats k q _ g hk) hk) (λ _. g) g

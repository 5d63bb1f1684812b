-- `new` and the calls make floodings that hold together.
use Rattle.std.specs.Prelude.{◌≡◌, ℕ, zero, suc, ◌^◌, ◌<◌, Bool, true, false, cond, not, ◌&&◌, ◌||◌, ltb, [], ◌∷◌, ◌++◌, is_some, Some, None, ◌==◌, bit_or, nat_eq, nat_lt, refl, Ok}
use Rattle.std.proofs.Common.{sym, ap, subst, ◌∙◌, inl, inr, ⊎_elim, arith}
use borrow.Author.Tests.{clash}
use Rattle.std.proofs.lemmas.Nat.{or_lt}
use Rattle.std.proofs.Math.Pow.{pow-lt}
use Rattle.std.specs.List.{slice_get, AllByRecursion, list_any}
use Rattle.std.proofs.ByRecursion.{All-push, All-weaker}
use Rattle.std.proofs.lemmas.List.Folds.{list_any-append}
use Rattle.std.proofs.lemmas.Bool.{and_parts, and_left, and_right, or_parts, or_cases, or_left, or_right, eqb-true, eqb-false, ne_eqb, lt-ltb, ltb-true, ltb-false, not-true, not_from_false, cases_Bool, cases_eq, cond-true, cond-false, cond_both, both_ways}
use Rattle.notes.specs.Sets.{has, added}
use Rattle.notes.proofs.Bits.{has_none, has_added}
use Rattle.parts.specs.Refusals.{propose_answer, carry_answer, lose_answer, crash_answer, suspect_answer}
use Rattle.parts.proofs.Accepted.{propose_accepted, crash_accepted, suspect_accepted}
use Rattle.parts.proofs.Options.{some_held}
use Rattle.cards.specs.Cards.{CardState, crashed_in, suspects_in, new_cards, with_crash, with_suspicion, Running, SoundCards}
use Rattle.tables.specs.Tables.{new_ballots, ballot_in, with_ballot}
use Rattle.wire.specs.Wires.{elsewhere, without_to}
use Rattle.wire.specs.declared.Item.{Item}
use Rattle.wire.proofs.Items.{all_nth, all_left, any_left}
use Rattle.parts.proofs.Lists.{same_rows}
use Rattle.cards.proofs.Nets.{new_sound, crash_sound, crash_more, suspect_sound, suspect_more, up_before}
use Rattle.wire.proofs.Taken.{carried_item, lost_item}
use Rattle.histories.specs.Moves.{Later, beginning, proposing}
use Rattle.histories.proofs.Kept.{moves_make_histories}
use Rattle.histories.proofs.Puts.{row_same}
use Rattle.flooding.specs.Seats.{no_seat, new_seats, seat_in, with_seat, hearing, all_counted}
use Rattle.flooding.specs.declared.seats.Seat.{Seat}
use Rattle.flooding.specs.declared.mail.Load.{Load}
use Rattle.flooding.specs.Flooding.{FloodingState, flooding_work, seen, new_flooding, put_forward, enter_on, keep_on, hear_on, arrive_on, arrive_by, settle_on, propose_on, carry_on, lose_on, crash_on, doubt_on, suspect_on, may_move}
use Rattle.flooding.specs.Made.{fates_of, brings, Underway, Stands, Says, SaysIn, Tied, SoundFlooding, MadeFlooding}
use Rattle.flooding.specs.Mails.{hearing_round}
use Rattle.tables.proofs.Written.{new_shaped, shaped_after}
use Rattle.flooding.specs.Works.{cell_same, cell_other}
use Rattle.flooding.specs.Pasts.{proposing_further, none_beyond}
use Rattle.flooding.specs.Sits.{hearing_counts}
use Rattle.flooding.specs.Actions.{Elsewhere, here_or_elsewhere}
use Rattle.flooding.specs.Enters.{in_round, hear_whole, enters_whole}
use Rattle.flooding.specs.Steps.{seat_stays, enter_stays, settles, goes_through}
use Rattle.flooding.specs.Leaves.{brings_parts, brings_itself, Accounted, leave_whole}

-- A new one.

new_seat : (k p : ℕ) → seat_in new_seats k p ≡ no_seat
new_seat k p = same_rows 32 6 k p no_seat

new_ballot : (k p : ℕ) → ballot_in new_ballots k p ≡ None
new_ballot k p = same_rows 32 6 k p None

new_stands : (n k p : ℕ) → Stands n beginning new_ballots k p (ballot_in new_ballots k p) (seat_in new_seats k p)
new_stands n k p =
    subst (λ o. Stands n beginning new_ballots k p o (seat_in new_seats k p)) (sym (new_ballot k p))
    (subst (Stands n beginning new_ballots k p None) (sym (new_seat k p))
    (record {
      stage = refl;
      proposed = ap is_some (new_ballot k p);
      seated = record { in_rounds = omega arith; fits = omega arith; counts = λ y b. has_none y; knows = λ z o. absurd (omega arith) };
      self_counted = λ o. absurd (omega arith);
      decided = λ v e. absurd (clash (ap is_some e));
    }))

new_settled : (n k p : ℕ) → may_move (new_flooding n) k p ≡ false
new_settled n k p =
    let c = new_cards n in
    and_right (nat_lt p c.count) _ (and_right (not (is_some (ballot_in new_ballots k p))) _ (and_left (nat_lt 0 (seat_in new_seats k p).round) (all_counted c p (seat_in new_seats k p) c.count) (ap (λ (s : Seat). ltb 0 s.round) (new_seat k p))))

pub new_made : (n : ℕ) → MadeFlooding (new_flooding n)
new_made n =
    let c = new_cards n in
    record {
      whole = record {
        sound = new_sound n;
        proposals_shaped = new_shaped None;
        decisions_shaped = new_shaped None;
        seats_shaped = new_shaped no_seat;
        proposers = λ k p h. absurd (clash (sym (ap is_some (new_ballot k p)) ∙ h));
        deciders = λ k p h. absurd (clash (sym (ap is_some (new_ballot k p)) ∙ h));
        proposed_sets = λ k p s h. absurd (clash (ap is_some (sym (new_ballot k p) ∙ h)));
        items = tt;
        tied = λ k l.
            record {
              past = beginning;
              history = (moves_make_histories c.count).beginning_is (fates_of c) (λ p y. same_rows 6 6 p y false);
              stands = λ p b. new_stands c.count k p;
              wire_says = tt;
              kept_says = tt;
              due = λ p q r bp bq d up uq o l h m. absurd (omega arith);
            };
      };
      settled = λ k p l u. new_settled n k p;
    }

-- A proposal and an item that is heard: the card moves as often as it can, and no other can.

settle_made : (x : FloodingState) (k q : ℕ) → SoundFlooding x → k < 32 → Running x.cards q → ((j p : ℕ) → j < 32 → crashed_in x.cards p ≡ false → Elsewhere k q j p → may_move x j p ≡ false) → MadeFlooding (settle_on x k q)
settle_made x k q g hk u others =
    let s = settles x k q g hk u in
    record {
      whole = s.whole;
      settled = λ j p hj up.
          ⊎_elim
          (λ e. subst (λ i. may_move (settle_on x k q) i p ≡ false) (sym e.0) (subst (λ i. may_move (settle_on x k q) k i ≡ false) (sym e.1) s.far))
          (λ e. s.stays j p e ∙ others j p hj (subst (λ c. crashed_in c p ≡ false) s.same_cards up) e)
          (here_or_elsewhere k q j p);
    }

pub propose_made : (x : FloodingState) (k p s : ℕ) → MadeFlooding x → s < 2 ^ 32 → propose_answer (seen x) k p s ≡ Ok tt → MadeFlooding (propose_on x k p s)
propose_made x k p s m small h =
    let g = m.whole in
    let f = propose_accepted (seen x) k p s h in
    let hk : k < 32 = f.3 in
    let c = x.cards in
    let n : ℕ = c.count in
    let six : p < 6 = omega (arith, f.0, g.sound.few) in
    let t = g.tied k hk in
    let u = t.stands p f.0 in
    let fresh = ltb-false 0 (seat_in x.seats k p).round (sym u.proposed ∙ f.2) in
    let undecided : is_some (ballot_in x.decisions k p) ≡ false =
    ⊎_elim (λ d. let v = some_held (ballot_in x.decisions k p) d in absurd (omega (arith, f.0, (u.decided v.0 v.1).0))) (λ d. d) (cases_Bool (is_some (ballot_in x.decisions k p))) in
    let zero-round : t.past.round p ≡ 0 = omega (arith, in_round x k p g hk f.0 f.1 undecided) in
    let same = cell_same x.proposals k p (Some s) None g.proposals_shaped hk six in
    let whole : SoundFlooding (enter_on (put_forward x k p s) k p 1 (added 0 p)) =
    enters_whole x k p g hk f.0 f.1 undecided (with_ballot x.proposals k p (Some s)) 1 (added 0 p) (proposing t.past p) (omega arith) (omega (arith, f.0))
    ((moves_make_histories n).proposing_keeps (fates_of c) t.past p t.history (record { card = f.0; runs = not_from_false _ f.1; fresh = zero-round }))
    (proposing_further t.past p zero-round)
    (λ y. none_beyond n (fates_of c) t.past t.history p 1 y (omega arith))
    (λ z.
    has_added 0 p z ∙ ap (λ b. b || (nat_lt p 32 && z == p)) (has_none z) ∙ ap (λ b. b && z == p) (lt-ltb p 32 (omega arith))
    ∙ sym (ap (λ r. r z) (row_same t.past.knew p 1 (λ v. nat_eq v p))))
    (cond_both (nat_lt p 32) (bit_or 0 (2 ^ p)) 0 (λ v. v < 2 ^ 32) (λ l. or_lt 32 0 (2 ^ p) (omega arith) (pow-lt (ltb-true p 32 l))) (λ _. omega arith))
    (shaped_after x.proposals k p (Some s) g.proposals_shaped hk)
    (λ j q d. cell_other x.proposals k p j q (Some s) None g.proposals_shaped hk six d)
    (λ v e. absurd (clash (sym f.2 ∙ ap is_some e)))
    (ap is_some same)
    (λ v e. let z : s ≡ v = let i = same in cc in subst (λ a. (0 < a) × (a < 2 ^ 32)) z (f.4, small)) in
    settle_made (enter_on (put_forward x k p s) k p 1 (added 0 p)) k p whole hk (f.0, f.1)
    (λ j q hj uq e. enter_stays (put_forward x k p s) k p g.seats_shaped hk six 1 (added 0 p) j q e ∙ m.settled j q hj uq)

-- An item that is carried.

module _ (x : FloodingState) (i : ℕ) (y : Item Load) (m : MadeFlooding x) (at : slice_get x.wire i ≡ Some y) where
  abbrev k : ℕ
  k = y.load.instance

  abbrev q : ℕ
  q = y.to

  abbrev g : SoundFlooding x
  g = m.whole

  under : Underway x.cards y
  under = all_nth (Underway x.cards) x.wire i y g.items at

  says : (j : ℕ) (t : Tied x j) → y.load.instance ≡ j → Says x.cards.count t.past y
  says j t = all_nth (SaysIn x.cards.count t.past j) x.wire i y t.wire_says at

  left : Accounted x x.kept k y.load.round y.from q → MadeFlooding (lose_on x i)
  left a = record { whole = leave_whole x i y x.kept g at (λ j t. t.kept_says) (λ j r p b w. w) a; settled = m.settled }

  stage : (t : Tied x k) → is_some (ballot_in x.decisions k q) ≡ false → t.past.round q ≡ (seat_in x.seats k q).round
  stage t u = (t.stands q under.receiver).stage ∙ cond-false _ _ _ u

  kept_made : is_some (ballot_in x.decisions k q) ≡ false → (seat_in x.seats k q).round < y.load.round → MadeFlooding (keep_on (lose_on x i) y)
  kept_made u l =
      record {
        whole = leave_whole x i y (x.kept ++ y ∷ []) g at
            (λ j t. All-push (SaysIn x.cards.count t.past j) x.kept y t.kept_says (says j t))
            (λ j r p b w. list_any-append (brings j r p b) x.kept (y ∷ []) ∙ or_left _ _ w)
            (λ t up uq h. inl (
              omega (arith, stage t u),
              list_any-append (brings k y.load.round y.from q) x.kept (y ∷ [])
                  ∙ or_right (list_any (brings k y.load.round y.from q) x.kept) _ (or_left _ false (brings_itself y)),
            ));
        settled = m.settled;
      }

  heard_made : is_some (ballot_in x.decisions k q) ≡ false → suspects_in x.cards q y.from ≡ false → (seat_in x.seats k q).round ≡ y.load.round → MadeFlooding (settle_on (hear_on (lose_on x i) y) k q)
  heard_made u trusts e =
      let c = x.cards in
      let w = under in
      let hk = w.instance_fits in
      let s : Seat = seat_in x.seats k q in
      let s' : Seat = hearing c q y.from y.load.known s in
      let same : seat_in (with_seat x.seats k q s') k q ≡ s' = cell_same x.seats k q s' no_seat g.seats_shaped hk (omega (arith, w.receiver, g.sound.few)) in
      let round : (seat_in (with_seat x.seats k q s') k q).round ≡ y.load.round = ap (λ (v : Seat). v.round) same ∙ hearing_round c q y.from y.load.known s ∙ e in
      let counted : has (seat_in (with_seat x.seats k q s') k q).counted y.from ≡ true =
      ap (λ (v : Seat). has v.counted y.from) same ∙ hearing_counts c q y.from y.load.known s (omega (arith, w.sender, g.sound.few)) trusts in
      let heard : SoundFlooding (hear_on x y) = hear_whole x k q g hk w.receiver w.up u y (says k (g.tied k hk) refl) refl (sym e) in
      let whole : SoundFlooding (hear_on (lose_on x i) y) =
      leave_whole (hear_on x y) i y x.kept heard at (λ j t. t.kept_says) (λ j r p b v. v)
      (λ t up uq h. inr (ap (λ r. t.past.counted q r y.from) (sym round) ∙ sym ((t.stands q w.receiver).seated.counts y.from w.sender) ∙ counted)) in
      settle_made (hear_on (lose_on x i) y) k q whole hk (w.receiver, w.up) (λ j p hj up d. seat_stays x k q j p s' g hk w.receiver d ∙ m.settled j p hj up)

  arrive_made : MadeFlooding (arrive_on (lose_on x i) y)
  arrive_made =
      let c = x.cards in
      let s : Seat = seat_in x.seats k q in
      let b : Bool = is_some (ballot_in x.decisions k q) in
      let d : Bool = suspects_in c q y.from in
      let x' = lose_on x i in
      let heard = settle_on (hear_on x' y) k q in
      cond_both (b || d) x' (cond (nat_lt s.round y.load.round) (keep_on x' y) (cond (s.round == y.load.round) heard x')) MadeFlooding
      (λ e. left (λ t up uq h.
      ⊎_elim
      (λ z. absurd (omega (arith, (t.stands q under.receiver).stage ∙ cond-true _ _ _ z, (says k t refl).last)))
      (λ z. absurd (both_ways (crashed_in c y.from) up (g.sound.suspected_crashed q y.from z)))
      (or_cases b d e)))
      (λ e.
      let u = or_parts b d e in
      cond_both (nat_lt s.round y.load.round) (keep_on x' y) (cond (s.round == y.load.round) heard x') MadeFlooding
      (λ l. kept_made u.0 (ltb-true _ _ l))
      (λ l. cond_both (s.round == y.load.round) heard x' MadeFlooding
      (λ z. heard_made u.0 u.1 (eqb-true _ _ z))
      (λ z. left (λ t up uq h. absurd (eqb-false s.round y.load.round z (omega (arith, ltb-false _ _ l, stage t u.0)))))))

pub carry_made : (x : FloodingState) (i : ℕ) → MadeFlooding x → carry_answer (seen x).net i ≡ Ok tt → MadeFlooding (carry_on x i)
carry_made x i m h =
    let y = carried_item x.cards x.wire (flooding_work x) i h in
    subst (λ o. MadeFlooding (arrive_by (lose_on x i) o)) (sym y.1) (arrive_made x i y.0 m y.1)

-- A loss: what is lost was sent by a crashed card.
pub lose_made : (x : FloodingState) (i : ℕ) → MadeFlooding x → lose_answer (seen x).net i ≡ Ok tt → MadeFlooding (lose_on x i)
lose_made x i m h =
    let y = lost_item x.cards x.wire (flooding_work x) i h in
    left x i y.0 m y.1 (λ t up uq l. absurd (both_ways (crashed_in x.cards y.0.from) up y.3))

-- A crash and a suspicion.

same_counted : (c e : CardState) (q : ℕ) (s : Seat) (m : ℕ) → ((y : ℕ) → suspects_in e q y ≡ suspects_in c q y) → all_counted e q s m ≡ all_counted c q s m
same_counted c e q s zero h = refl
same_counted c e q s (suc m) h = cc (same_counted c e q s m h, h m)

crash_moves : (x : FloodingState) (p k q : ℕ) → may_move (crash_on x p) k q ≡ may_move x k q
crash_moves x p k q =
    ap (λ w. nat_lt q x.cards.count && (not (is_some (ballot_in x.decisions k q)) && (nat_lt 0 (seat_in x.seats k q).round && w)))
    (same_counted x.cards (with_crash x.cards p) q (seat_in x.seats k q) x.cards.count (λ y. refl))

module _ (x : FloodingState) (p : ℕ) (g : SoundCards x.cards) (card : p < x.cards.count) where
  abbrev c : CardState
  c = x.cards

  abbrev e : CardState
  e = with_crash x.cards p

  crash_later : Later (fates_of c) (fates_of e)
  crash_later =
      record {
        crashed_stay = λ q o. not_from_false _ (up_before c p q g card (not-true _ o)).1;
        suspicions_stay = λ q y o. o;
        new_crashed = λ q y o. inl o;
      }

  crash_items : AllByRecursion (Underway c) x.wire → AllByRecursion (Underway e) (without_to p x.wire)
  crash_items =
      all_left (Underway c) (Underway e) (elsewhere p) x.wire
      (λ y u o. record { instance_fits = u.instance_fits; sender = u.sender; receiver = u.receiver; up = crash_more c p y.to g card ∙ ap (λ b. b || crashed_in c y.to) (not-true _ o) ∙ u.up })

  -- What is under way to a card that runs afterwards stays.
  crash_leaves : (k r a q : ℕ) → crashed_in e q ≡ false → list_any (brings k r a q) x.wire ≡ true → list_any (brings k r a q) (without_to p x.wire) ≡ true
  crash_leaves k r a q u =
      any_left (brings k r a q) (elsewhere p) x.wire
      (λ y b. not_from_false _ (ne_eqb y.to p (λ z. eqb-false q p (up_before c p q g card u).0 (sym (brings_parts k r a q y b).1 ∙ z))))

pub crash_made : (x : FloodingState) (p : ℕ) → MadeFlooding x → crash_answer (seen x).net p ≡ Ok tt → MadeFlooding (crash_on x p)
crash_made x p m h =
    let g = m.whole in
    let s = g.sound in
    let f = crash_accepted (seen x).net p h in
    let c = x.cards in
    let before : (q : ℕ) → crashed_in (with_crash c p) q ≡ false → ((q == p) ≡ false) × (crashed_in c q ≡ false) = λ q u. up_before c p q s f.0 u in
    record {
      whole = record {
        sound = crash_sound c p s f.0;
        proposals_shaped = g.proposals_shaped;
        decisions_shaped = g.decisions_shaped;
        seats_shaped = g.seats_shaped;
        proposers = g.proposers;
        deciders = g.deciders;
        proposed_sets = g.proposed_sets;
        items = crash_items x p s f.0 g.items;
        tied = λ k l.
            let t = g.tied k l in
            record {
              past = t.past;
              history = (moves_make_histories c.count).later_keeps (fates_of c) (fates_of (with_crash c p)) t.past t.history (crash_later x p s f.0);
              stands = t.stands;
              wire_says = all_left (SaysIn c.count t.past k) (SaysIn c.count t.past k) (elsewhere p) x.wire (λ y e _. e) t.wire_says;
              kept_says = t.kept_says;
              due = λ a q r ba bq d ua uq o n ha hq. ⊎_elim (λ w. inl (crash_leaves x p s f.0 k r a q uq w)) (λ e. inr e) (t.due a q r ba bq d (before a ua).1 (before q uq).1 o n ha hq);
            };
      };
      settled = λ k q l u. crash_moves x p k q ∙ m.settled k q l (before q u).1;
    }

pub suspect_made : (x : FloodingState) (q p : ℕ) → MadeFlooding x → suspect_answer (seen x).net q p ≡ Ok tt → MadeFlooding (suspect_on x q p)
suspect_made x q p m h =
    let g = m.whole in
    let f = suspect_accepted (seen x).net q p h in
    let c = x.cards in
    let e : CardState = with_suspicion c q p in
    let more : (a b : ℕ) → suspects_in e a b ≡ ((a == q && b == p) || suspects_in c a b) = λ a b. suspect_more c q p a b g.sound f.0 f.1 in
    let later : Later (fates_of c) (fates_of e) =
    record {
      crashed_stay = λ a r. r;
      suspicions_stay = λ a b s. more a b ∙ or_right (a == q && b == p) _ s;
      new_crashed = λ a b s.
          ⊎_elim
          (λ z. inr (ap not (ap (crashed_in c) (eqb-true b p (and_parts (a == q) (b == p) z).1) ∙ f.3)))
          (λ z. inl z)
          (or_cases (a == q && b == p) (suspects_in c a b) (sym (more a b) ∙ s));
    } in
    let whole : SoundFlooding (doubt_on x q p) =
    record {
      sound = suspect_sound c q p g.sound f.0 f.1 f.3;
      proposals_shaped = g.proposals_shaped;
      decisions_shaped = g.decisions_shaped;
      seats_shaped = g.seats_shaped;
      proposers = g.proposers;
      deciders = g.deciders;
      proposed_sets = g.proposed_sets;
      items = All-weaker (Underway c) (Underway e) (λ y u. record { instance_fits = u.instance_fits; sender = u.sender; receiver = u.receiver; up = u.up }) x.wire g.items;
      tied = λ k l.
          let t = g.tied k l in
          record {
            past = t.past;
            history = (moves_make_histories c.count).later_keeps (fates_of c) (fates_of e) t.past t.history later;
            stands = t.stands;
            wire_says = t.wire_says;
            kept_says = t.kept_says;
            due = t.due;
          };
    } in
    let s = goes_through (doubt_on x q p) q 32 whole (f.0, f.2) (omega arith) in
    record {
      whole = s.whole;
      settled = λ k a l u.
          ⊎_elim
          (λ (z : a ≡ q). subst (λ i. may_move (suspect_on x q p) k i ≡ false) (sym z) (s.ends k l))
          (λ z.
          s.stays k a z
          ∙ ap (λ w. nat_lt a c.count && (not (is_some (ballot_in x.decisions k a)) && (nat_lt 0 (seat_in x.seats k a).round && w)))
          (same_counted c e a (seat_in x.seats k a) c.count (λ y. more a y ∙ ap (λ b. (b && y == p) || suspects_in c a y) (ne_eqb a q z)))
          ∙ m.settled k a l (subst (λ d. crashed_in d a ≡ false) s.same_cards u))
          (cases_eq a q);
    }

-- What is certain of every flooding that is made: decisions were proposed, are equal, and come when it is quiet.
use Rattle.std.specs.List.{list_any}
use Rattle.std.specs.Prelude.{◌≡◌, ℕ, zero, suc, ◌<◌, ◌≤◌, true, false, ◌⊎◌, List, is_some, Some, None, Option, ◌≢◌}
use Rattle.std.proofs.Common.{sym, ap, subst, ◌∙◌, inl, ⊎_elim, arith}
use borrow.Author.Tests.{clash}
use Rattle.std.proofs.ByRecursion.{All-map, All-weaker}
use Rattle.std.proofs.lemmas.Bool.{cases_Bool, cases_lt, cases_eq, cond-true, cond-false, and_from, or_left, or_right, not_from_false, lt-ltb, ltb-true, both_ways}
use Rattle.std.proofs.lemmas.Option.{same_Some}
use Rattle.notes.specs.Sets.{has, low}
use Rattle.notes.proofs.Bits.{same_sets}
use Rattle.parts.specs.Views.{Runs, Quiet}
use Rattle.parts.specs.Deciding.{Lawful}
use Rattle.parts.proofs.Options.{some_held}
use Rattle.cards.specs.Cards.{crashed_in}
use Rattle.tables.specs.Tables.{ballot_in}
use Rattle.wire.specs.Wires.{senders}
use Rattle.tables.proofs.Written.{instance_below}
use Rattle.cards.proofs.Nets.{lawful_net}
use Rattle.wire.proofs.Wires.{nothing_left, length_senders}
use Rattle.histories.specs.Histories.{Left}
use Rattle.histories.specs.Moves.{heard_of}
use Rattle.histories.proofs.Agrees.{agreement}
use Rattle.histories.proofs.Heard.{heard_knew}
use Rattle.flooding.specs.Seats.{seat_in, accounted_for}
use Rattle.flooding.specs.declared.seats.Seat.{Seat}
use Rattle.flooding.specs.Flooding.{FloodingState, flooding_work, seen, proposal_of, may_move}
use Rattle.flooding.specs.Made.{fates_of, brings, Underway, Tied, MadeFlooding}
use Rattle.flooding.specs.Counted.{all_decides}

some_proposal : (t : List (List (Option ℕ))) (k s : ℕ) (o : Option ℕ) → proposal_of t k o ≡ Some s → (q : ℕ) × (ballot_in t k q ≡ Some s)
some_proposal t k s None e = absurd (clash (ap is_some e))
some_proposal t k s (Some q) e = (q, e)

module _ (x : FloodingState) (k : ℕ) (hk : k < 32) (m : MadeFlooding x) where
  abbrev g : Tied x k
  g = m.whole.tied k hk

  card : (p s : ℕ) → ballot_in x.decisions k p ≡ Some s → p < x.cards.count
  card p s e = m.whole.deciders k p (ap is_some e)

  decided_stage : (p s : ℕ) → ballot_in x.decisions k p ≡ Some s → g.past.round p ≡ suc x.cards.count
  decided_stage p s e = (g.stands p (card p s e)).stage ∙ cond-true _ _ _ (ap is_some e)

  -- What a card knows that has decided is what it knew when it left the last round.
  known_at_end : (p s z : ℕ) → ballot_in x.decisions k p ≡ Some s → has (seat_in x.seats k p).known z ≡ g.past.knew p (suc x.cards.count) z
  known_at_end p s z e =
      let n : ℕ = x.cards.count in
      let b = card p s e in
      let t = g.stands p b in
      let d = t.decided s e in
      let st : g.past.round p ≡ suc n = decided_stage p s e in
      let left : Left n g.past p n = record { card = b; begun = omega arith; gone = omega arith } in
      t.seated.knows z (omega (arith, d.0)) ∙ ap (λ r. heard_of n g.past p r z) d.0 ∙ heard_knew n (fates_of x.cards) g.past g.history p n z left

  same_decisions : (p q s t : ℕ) → ballot_in x.decisions k p ≡ Some s → ballot_in x.decisions k q ≡ Some t → s ≡ t
  same_decisions p q s t e f =
      let n : ℕ = x.cards.count in
      let bp = card p s e in
      let bq = card q t f in
      let same : (seat_in x.seats k p).known ≡ (seat_in x.seats k q).known =
      same_sets _ _ (λ z. known_at_end p s z e ∙ agreement n (fates_of x.cards) g.past g.history p q bp bq (decided_stage p s e) (decided_stage q t f) z ∙ sym (known_at_end q t z f)) in
      same_Some s t (sym ((g.stands p bp).decided s e).1 ∙ ap (λ m. proposal_of x.proposals k (low m)) same ∙ ((g.stands q bq).decided t f).1)

  decided_proposed : (p : ℕ) → is_some (ballot_in x.decisions k p) ≡ true → is_some (ballot_in x.proposals k p) ≡ true
  decided_proposed p h =
      let o = some_held (ballot_in x.decisions k p) h in
      let b = m.whole.deciders k p h in
      let t = g.stands p b in
      t.proposed ∙ lt-ltb 0 (seat_in x.seats k p).round (omega (arith, b, (t.decided o.0 o.1).0))

  -- The rest law: a running card in the lowest round of all would have counted everybody.
  module _ (quiet : Quiet (seen x).net) (all : (p : ℕ) → Runs (seen x).net p → is_some (ballot_in x.proposals k p) ≡ true) where
    nothing_comes : (r p q : ℕ) → list_any (brings k r p q) x.wire ≢ true
    nothing_comes r p q h = clash (ap (list_any (brings k r p q)) (sym (nothing_left x.wire quiet.empty)) ∙ h)

    stuck : (p : ℕ) → p < x.cards.count → crashed_in x.cards p ≡ false → g.past.round p ≤ x.cards.count
        → ((q : ℕ) → q < x.cards.count → crashed_in x.cards q ≡ false → g.past.round p ≤ g.past.round q) → ⊥
    stuck p b u l low =
        let n : ℕ = x.cards.count in
        let s : Seat = seat_in x.seats k p in
        let t = g.stands p b in
        let runs : Runs (seen x).net p = record { card = b; up = u } in
        let undecided : is_some (ballot_in x.decisions k p) ≡ false =
        ⊎_elim (λ e. absurd (let z : g.past.round p ≡ suc n = t.stage ∙ cond-true _ _ _ e in omega arith)) (λ e. e) (cases_Bool (is_some (ballot_in x.decisions k p))) in
        let st : g.past.round p ≡ s.round = t.stage ∙ cond-false _ _ _ undecided in
        let o : 0 < s.round = ltb-true 0 s.round (sym t.proposed ∙ all p runs) in
        let heard : (y : ℕ) → y < n → (p ≢ y) → crashed_in x.cards y ≡ false → has s.counted y ≡ true =
        λ y c d v.
        t.seated.counts y c
        ∙ ⊎_elim (λ w. absurd (nothing_comes s.round y p w)) (λ e. ⊎_elim (λ i. absurd (let j = i.0 in omega arith)) (λ i. i) e)
        (g.due y p s.round c b d v u o t.seated.in_rounds (let j = low y c v in omega arith) (omega arith)) in
        let each : (y : ℕ) → y < n → accounted_for x.cards p s y ≡ true =
        λ y c.
        ⊎_elim
        (λ v. or_left _ _ (quiet.known p y runs c v))
        (λ v. or_right _ _ (⊎_elim (λ (e : p ≡ y). subst (λ z. has s.counted z ≡ true) e (t.self_counted o)) (λ d. heard y c d v) (cases_eq p y)))
        (cases_Bool (crashed_in x.cards y)) in
        both_ways (may_move x k p) (m.settled k p hk u)
        (and_from _ _ (lt-ltb p n b) (and_from _ _ (not_from_false _ undecided) (and_from _ _ (lt-ltb 0 s.round o) ((all_decides x.cards p s n).1 each))))

    reach : (r : ℕ) → r ≤ suc x.cards.count → (p : ℕ) → p < x.cards.count → crashed_in x.cards p ≡ false → r ≤ g.past.round p
    reach zero l p b u = omega arith
    reach (suc r) l p b u =
        ⊎_elim
        (λ h. h)
        (λ h. absurd (stuck p b u (omega arith) (λ q c v. let j = reach r (omega arith) q c v in omega arith)))
        (cases_lt r (g.past.round p))

    all_decided : (p : ℕ) → Runs (seen x).net p → is_some (ballot_in x.decisions k p) ≡ true
    all_decided p r =
        let n : ℕ = x.cards.count in
        let t = g.stands p r.card in
        let h = reach (suc n) (omega arith) p r.card r.up in
        ⊎_elim
        (λ e. e)
        (λ e. absurd (let z : g.past.round p ≡ (seat_in x.seats k p).round = t.stage ∙ cond-false _ _ _ e in omega (arith, t.seated.in_rounds)))
        (cases_Bool (is_some (ballot_in x.decisions k p)))

pub lawful : (x : FloodingState) → MadeFlooding x → Lawful (seen x)
lawful x m =
    let g = m.whole in
    record {
      net = lawful_net x.cards (senders x.wire) (flooding_work x) g.sound
          (All-map (λ s. (s < x.cards.count) ⊎ (s ≡ 7)) (λ y. y.from) x.wire (All-weaker (Underway x.cards) (λ y. (y.from < x.cards.count) ⊎ (y.from ≡ 7)) (λ y u. inl u.sender) x.wire g.items))
          (omega (arith, length_senders x.wire));
      instances_below_32 = λ k p h. instance_below x.proposals k p g.proposals_shaped h;
      proposers_are_cards = g.proposers;
      proposals_not_empty = λ k p s h. (g.proposed_sets k p s h).0;
      proposals_fit_32_bits = λ k p s h. (g.proposed_sets k p s h).1;
      decided_have_proposed = λ k p h. decided_proposed x k (instance_below x.decisions k p g.decisions_shaped h) m p h;
      decisions_were_proposed = λ k p s h.
          let hk = instance_below x.decisions k p g.decisions_shaped (ap is_some h) in
          some_proposal x.proposals k s (low (seat_in x.seats k p).known) (((g.tied k hk).stands p (g.deciders k p (ap is_some h))).decided s h).1;
      decisions_equal = λ k p q s t hs ht. same_decisions x k (instance_below x.decisions k p g.decisions_shaped (ap is_some hs)) m p q s t hs ht;
      quiet_all_decided = λ q k all p r. all_decided x k (instance_below x.proposals k p g.proposals_shaped (all p r)) m q all p r;
    }

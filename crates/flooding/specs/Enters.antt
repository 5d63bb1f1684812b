-- A card hears an item of its round, enters a round, or decides: the state goes on holding together.
use Rattle.std.specs.Prelude.{◌≡◌, ℕ, suc, ◌+◌, ◌^◌, ◌<◌, ◌≤◌, true, false, not, ◌&&◌, List, ◌++◌, is_some, Some, None, Option, ◌==◌, ◌≢◌, refl}
use Rattle.std.specs.List.{list_any}
use Rattle.std.proofs.Common.{sym, ap, subst, ◌∙◌, ⊎_elim, arith}
use borrow.Author.Tests.{clash}
use Rattle.std.specs.Int.Count.{count_trailing_zeros}
use Rattle.std.proofs.ByRecursion.{All-append}
use Rattle.std.proofs.lemmas.List.Folds.{list_any-append}
use Rattle.std.proofs.lemmas.Bool.{cases_Bool, cases_eq, both_ways, cond-true, cond-false, and_parts, and_from, or_cases, or_left, or_right, eqb-true, eqb-false, eq-eqb, ne_eqb, lt-ltb, not-true, not_from_false}
use Rattle.notes.specs.Sets.{has, low}
use Rattle.notes.proofs.Bits.{has_none, has_added, zeros_lowest}
use Rattle.parts.proofs.Options.{some_held}
use Rattle.cards.specs.Cards.{crashed_in, suspects_in}
use Rattle.tables.specs.Tables.{Shaped, ballot_in, with_ballot}
use Rattle.wire.specs.Wires.{sent}
use Rattle.wire.specs.declared.Item.{Item}
use Rattle.wire.proofs.Items.{all_left, all_sent_are, any_left, any_sent}
use Rattle.histories.specs.Histories.{Past, Fates, History}
use Rattle.histories.specs.Moves.{heard_of, passing}
use Rattle.histories.proofs.Agrees.{own_known, validity}
use Rattle.histories.proofs.Kept.{moves_make_histories}
use Rattle.histories.proofs.Puts.{row_same}
use Rattle.flooding.specs.Seats.{no_seat, seat_in, with_seat, entering, hearing}
use Rattle.flooding.specs.declared.seats.Seat.{Seat}
use Rattle.flooding.specs.Mail.{is_for, taking_in, stays_kept, still_kept}
use Rattle.flooding.specs.declared.mail.Load.{Load}
use Rattle.flooding.specs.Flooding.{FloodingState, seat_on, enter_on, decide_on, proposal_of, may_move}
use Rattle.flooding.specs.Made.{fates_of, brings, Underway, Stands, Says, SaysIn, Tied, SoundFlooding}
use Rattle.flooding.specs.Counted.{all_decides}
use Rattle.tables.proofs.Written.{shaped_after}
use Rattle.flooding.specs.Works.{cell_same, cell_other, may_move_means}
use Rattle.flooding.specs.Pasts.{Further, no_further, passing_further, then_further, none_beyond}
use Rattle.flooding.specs.Sits.{Sits, seated_stays, all_say_stays, enters, hears, takes_in, hearing_grows, taking_grows, taking_counts}
use Rattle.flooding.specs.Actions.{Elsewhere, after, action_whole}
use Rattle.flooding.specs.Leaves.{brings_parts, brings_itself}

-- A card that sits in a round and has not decided stands there.
sits_stand : (n : ℕ) (f : Fates) (h : Past) (t : List (List (Option ℕ))) (k q r : ℕ) (d : Option ℕ) (s : Seat) (a : Sits n f h q r s) → is_some d ≡ false → is_some (ballot_in t k q) ≡ true → 1 ≤ r → has s.counted q ≡ true
    → Stands n a.past t k q d s
sits_stand n f h t k q r d s a u p o self =
    record {
      stage = a.moved.now ∙ sym a.here ∙ sym (cond-false (is_some d) (suc n) s.round u);
      proposed = p ∙ sym (lt-ltb 0 s.round (omega (arith, a.here)));
      seated = a.seated;
      self_counted = λ _. self;
      decided = λ v e. absurd (clash (sym u ∙ ap is_some e));
    }

-- An item for another card or another round stays kept.
others_stay : (k r q j i p b : ℕ) (y : Item Load) → ((j ≡ k) × (i ≡ r) × (b ≡ q) → ⊥) → brings j i p b y ≡ true → stays_kept k r q y ≡ true
others_stay k r q j i p b y d w =
    not_from_false _
    (⊎_elim
    (λ t.
    let z = brings_parts j i p b y w in
    let e = and_parts (y.load.instance == k) (y.load.round == r && y.to == q) t in
    let f = and_parts (y.load.round == r) (y.to == q) e.1 in
    absurd (d (sym z.2 ∙ eqb-true _ _ e.0, sym z.3 ∙ eqb-true _ _ f.0, sym z.1 ∙ eqb-true _ _ f.1)))
    (λ t. t)
    (cases_Bool (is_for k r q y)))

module _ (x : FloodingState) (k q : ℕ) (g : SoundFlooding x) (hk : k < 32) (bq : q < x.cards.count) (up : crashed_in x.cards q ≡ false) (undecided : is_some (ballot_in x.decisions k q) ≡ false) where
  abbrev n : ℕ
  n = x.cards.count

  abbrev tie : Tied x k
  tie = g.tied k hk

  six : q < 6
  six = omega (arith, g.sound.few)

  -- Its stage is its round.
  pub in_round : tie.past.round q ≡ (seat_in x.seats k q).round
  in_round = (tie.stands q bq).stage ∙ cond-false _ _ _ undecided

  trusts : (a : ℕ) → crashed_in x.cards a ≡ false → suspects_in x.cards q a ≡ false
  trusts a ua = ⊎_elim (λ t. absurd (both_ways (crashed_in x.cards a) ua (g.sound.suspected_crashed q a t))) (λ t. t) (cases_Bool (suspects_in x.cards q a))

  -- It hears an item.
  pub hear_whole : (y : Item Load) → Says n tie.past y → y.to ≡ q → y.load.round ≡ (seat_in x.seats k q).round
      → SoundFlooding (seat_on x k q (hearing x.cards q y.from y.load.known (seat_in x.seats k q)))
  hear_whole y t to e =
      let c = x.cards in
      let h = tie.past in
      let s : Seat = seat_in x.seats k q in
      let r : ℕ = s.round in
      let u = tie.stands q bq in
      let begun : 1 ≤ r = omega (arith, t.begun) in
      let still : Sits n (fates_of c) h q r s = record { past = h; history = tie.history; moved = subst (λ i. Further h h q i) in_round (no_further h q); here = refl; seated = u.seated } in
      let a = hears c h q r g.sound.few bq up begun s y t to e still in
      let s' : Seat = hearing c q y.from y.load.known s in
      let same : seat_in (with_seat x.seats k q s') k q ≡ s' = cell_same x.seats k q s' no_seat g.seats_shaped hk six in
      action_whole x x.proposals x.decisions (with_seat x.seats k q s') x.wire x.kept k q r a.past g hk bq g.proposals_shaped g.decisions_shaped (shaped_after x.seats k q s' g.seats_shaped hk) (g.proposed_sets k q)
      (record {
        seats_stay = λ j p d. cell_other x.seats k q j p s' no_seat g.seats_shaped hk six d;
        decisions_stay = λ j p d. refl;
        proposals_stay = λ j p d. refl;
        proposal_stands = λ v i. i;
        history = a.history;
        moved = a.moved;
        stands = subst (Stands n a.past x.proposals k q (ballot_in x.decisions k q)) (sym same)
            (sits_stand n (fates_of c) h x.proposals k q r (ballot_in x.decisions k q) s' a undecided (u.proposed ∙ lt-ltb 0 r begun) begun (hearing_grows c q y.from y.load.known s q (u.self_counted begun)));
        items = g.items;
        wire_says = all_say_stays n h a.past q r k x.wire a.moved tie.wire_says;
        wire_others = λ j _ o. o.wire_says;
        wire_stays = λ j i a b w. w;
        kept_says = all_say_stays n h a.past q r k x.kept a.moved tie.kept_says;
        kept_others = λ j _ o. o.kept_says;
        kept_stays = λ j i a b _ w. w;
        sent = λ i. absurd (omega (arith, in_round));
        taken = λ i. absurd (omega (arith, in_round));
      })

  -- It enters a round: t are the proposals then, and l the history in which it has come to the round.
  module _ (t : List (List (Option ℕ))) (r known : ℕ) (l : Past) where
    pub enters_whole : 1 ≤ r → r ≤ n → History n (fates_of x.cards) l → Further tie.past l q r → ((y : ℕ) → l.counted q r y ≡ false) → ((z : ℕ) → has known z ≡ l.knew q r z) → known < 2 ^ 32
        → Shaped t → ((j p : ℕ) → Elsewhere k q j p → ballot_in t j p ≡ ballot_in x.proposals j p) → ((s : ℕ) → ballot_in x.proposals k q ≡ Some s → ballot_in t k q ≡ Some s)
        → is_some (ballot_in t k q) ≡ true → ((s : ℕ) → ballot_in t k q ≡ Some s → (0 < s) × (s < 2 ^ 32))
        → SoundFlooding (enter_on (after x t x.decisions x.seats x.wire x.kept) k q r known)
    enters_whole begun last i m none knew fits st others mine there new =
        let c = x.cards in
        let h = tie.past in
        let s₀ : Seat = entering q r known in
        let first : List (List Seat) = with_seat x.seats k q s₀ in
        let s : Seat = taking_in c k q s₀ x.kept in
        let seats : List (List Seat) = with_seat first k q s in
        let load : Load = record { instance = k; round = r; known = known } in
        let wire : List (Item Load) = x.wire ++ sent c q load n in
        let rest : List (Item Load) = still_kept k r q x.kept in
        let g₁ = shaped_after x.seats k q s₀ g.seats_shaped hk in
        let kept = all_say_stays n h l q r k x.kept m tie.kept_says in
        let a : Sits n (fates_of c) l q r s = takes_in c l q r g.sound.few bq up begun k s₀ x.kept kept (enters c l q r g.sound.few bq up begun known i m.now last none knew fits) in
        let moved = then_further h l a.past q r m a.moved in
        let own : has s₀.counted q ≡ true = has_added 0 q q ∙ or_right (has 0 q) _ (and_from _ _ (lt-ltb q 32 (omega (arith, six))) (eq-eqb q q refl)) in
        let same : seat_in seats k q ≡ s = cell_same first k q s no_seat g₁ hk six in
        let to : (b : ℕ) → b < n → not (crashed_in c b) && not (b == q) ≡ true → (crashed_in c b ≡ false) × (b ≢ q) =
        λ b _ e. let p = and_parts (not (crashed_in c b)) (not (b == q)) e in (not-true _ p.0, eqb-false b q (not-true _ p.1)) in
        let whole : SoundFlooding (after x t x.decisions seats wire rest) =
        action_whole x t x.decisions seats wire rest k q r a.past g hk bq st g.decisions_shaped (shaped_after first k q s g₁ hk) new
        (record {
          seats_stay = λ j p d. cell_other first k q j p s no_seat g₁ hk six d ∙ cell_other x.seats k q j p s₀ no_seat g.seats_shaped hk six d;
          decisions_stay = λ j p d. refl;
          proposals_stay = others;
          proposal_stands = mine;
          history = a.history;
          moved = moved;
          stands = subst (Stands n a.past t k q (ballot_in x.decisions k q)) (sym same)
              (sits_stand n (fates_of c) l t k q r (ballot_in x.decisions k q) s a undecided there begun (taking_grows c q k s₀ x.kept q own));
          items = All-append (Underway c) x.wire (sent c q load n) g.items (all_sent_are (Underway c) c q load n (λ b l e. record { instance_fits = hk; sender = bq; receiver = l; up = (to b l e).0 }));
          wire_says = All-append (SaysIn n a.past k) x.wire (sent c q load n)
              (all_say_stays n h a.past q r k x.wire moved tie.wire_says)
              (all_sent_are (SaysIn n a.past k) c q load n
              (λ b l' e _. record {
                sender = bq;
                receiver = l';
                others = (to b l' e).1;
                begun = begun;
                last = last;
                entered = omega (arith, moved.now);
                knew = λ z. knew z ∙ sym (a.moved.knew_stays q r z (omega (arith, m.now)));
                fits = fits;
              }));
          wire_others = λ j d o. All-append (SaysIn n o.past j) x.wire (sent c q load n) o.wire_says
              (all_sent_are (SaysIn n o.past j) c q load n (λ b l' e f. absurd (d (sym f))));
          wire_stays = λ j i p b w. list_any-append (brings j i p b) x.wire (sent c q load n) ∙ or_left _ _ w;
          kept_says = all_left (SaysIn n a.past k) (SaysIn n a.past k) (stays_kept k r q) x.kept (λ y u _. u) (all_say_stays n h a.past q r k x.kept moved tie.kept_says);
          kept_others = λ j _ o. all_left (SaysIn n o.past j) (SaysIn n o.past j) (stays_kept k r q) x.kept (λ y u _. u) o.kept_says;
          kept_stays = λ j i p b d. any_left (brings j i p b) (stays_kept k r q) x.kept (λ y w. others_stay k r q j i p b y d w);
          sent = λ _ _ b l' d ub. list_any-append (brings k r q b) x.wire (sent c q load n)
              ∙ or_right (list_any (brings k r q b) x.wire) _ (any_sent (brings k r q b) c q load n b l' (and_from _ _ (not_from_false _ ub) (not_from_false _ (ne_eqb b q d))) (brings_itself (record { load = load; from = q; to = b })));
          taken = λ _ _ p bp ua w. ap (λ j. a.past.counted q j p) (sym a.here) ∙ sym (a.seated.counts p bp) ∙ taking_counts c q k r s₀ x.kept p refl (omega (arith, g.sound.few)) (trusts p ua) w;
        }) in
        subst
        (λ (z : Seat). SoundFlooding (after x t x.decisions (with_seat first k q (taking_in c k q z x.kept)) (x.wire ++ sent c q (record { instance = k; round = z.round; known = z.known }) n) (still_kept k z.round q x.kept)))
        (sym (cell_same x.seats k q s₀ no_seat g.seats_shaped hk six)) whole

-- A card that may move enters the next round, or decides.

module _ (x : FloodingState) (k q : ℕ) (g : SoundFlooding x) (hk : k < 32) (bq : q < x.cards.count) (up : crashed_in x.cards q ≡ false) (m : may_move x k q ≡ true) where
  abbrev round : ℕ
  round = (seat_in x.seats k q).round

  abbrev now : Past
  now = (g.tied k hk).past

  abbrev next : Past
  next = passing x.cards.count now q

  stage_is_round : now.round q ≡ round
  stage_is_round = in_round x k q g hk bq up (may_move_means x k q m).1

  proposed : is_some (ballot_in x.proposals k q) ≡ true
  proposed = ((g.tied k hk).stands q bq).proposed ∙ lt-ltb 0 round (may_move_means x k q m).2

  next_history : History x.cards.count (fates_of x.cards) next
  next_history =
      let c = x.cards in
      let s : Seat = seat_in x.seats k q in
      let t = g.tied k hk in
      let o = may_move_means x k q m in
      (moves_make_histories c.count).passing_keeps (fates_of c) now q t.history
      (record {
        card = bq;
        runs = not_from_false _ up;
        begun = omega (arith, stage_is_round, o.2);
        all = λ y b u.
            ap (λ i. now.counted q i y) stage_is_round
            ∙ sym ((t.stands q bq).seated.counts y b)
            ∙ ⊎_elim (λ e. absurd (both_ways (suspects_in c q y) u e)) (λ e. e) (or_cases (suspects_in c q y) (has s.counted y) ((all_decides c q s c.count).0 o.3 y b));
      })

  next_further : (r : ℕ) → suc round ≡ r → Further now next q r
  next_further r e = subst (λ i. Further now next q i) (ap suc stage_is_round ∙ e) (passing_further now q x.cards.count)

  -- What it knew on entering is what it knows.
  next_knew : (r z : ℕ) → suc round ≡ r → has (seat_in x.seats k q).known z ≡ next.knew q r z
  next_knew r z e =
      let n : ℕ = x.cards.count in
      let i = now.round q in
      ((g.tied k hk).stands q bq).seated.knows z (may_move_means x k q m).2
      ∙ ap (λ j. heard_of n now q j z) (sym stage_is_round)
      ∙ sym (ap (λ f. f z) (row_same now.knew q (suc i) (heard_of n now q i)))
      ∙ ap (λ j. next.knew q j z) (ap suc stage_is_round ∙ e)

  pub next_whole : round < x.cards.count → SoundFlooding (enter_on x k q (round + 1) (seat_in x.seats k q).known)
  next_whole l =
      let r : ℕ = round + 1 in
      let e : suc round ≡ r = omega arith in
      enters_whole x k q g hk bq up (may_move_means x k q m).1 x.proposals r (seat_in x.seats k q).known next (omega arith) (omega arith) next_history (next_further r e)
      (λ y. none_beyond x.cards.count (fates_of x.cards) now (g.tied k hk).history q r y (omega (arith, stage_is_round))) (λ z. next_knew r z e)
      ((g.tied k hk).stands q bq).seated.fits g.proposals_shaped (λ j p d. refl) (λ s i. i) proposed (g.proposed_sets k q)

  -- The lowest card that it knows has proposed.
  module _ (last : round ≡ x.cards.count) where
    known_proposed : (z : ℕ) → has (seat_in x.seats k q).known z ≡ true → is_some (ballot_in x.proposals k z) ≡ true
    known_proposed z h =
        let n : ℕ = x.cards.count in
        let e : suc round ≡ suc n = ap suc last in
        let v = validity n (fates_of x.cards) next next_history q (suc n) z bq (omega arith) (omega (arith, (next_further (suc n) e).now)) (sym (next_knew (suc n) z e) ∙ h) in
        ⊎_elim
        (λ (i : z ≡ q). subst (λ j. is_some (ballot_in x.proposals k j) ≡ true) (sym i) proposed)
        (λ i.
        let u = (g.tied k hk).stands z v.0 in
        let o : 1 ≤ now.round z = omega (arith, v.1, (next_further (suc n) e).others z i) in
        u.proposed ∙ lt-ltb 0 (seat_in x.seats k z).round
        (⊎_elim
        (λ d. let w = some_held (ballot_in x.decisions k z) d in omega (arith, bq, (u.decided w.0 w.1).0))
        (λ d. omega (arith, u.stage ∙ cond-false _ _ _ d))
        (cases_Bool (is_some (ballot_in x.decisions k z)))))
        (cases_eq z q)

    pub choice : (v : ℕ) × (proposal_of x.proposals k (low (seat_in x.seats k q).known) ≡ Some v)
    choice =
        let n : ℕ = x.cards.count in
        let known : ℕ = (seat_in x.seats k q).known in
        let e : suc round ≡ suc n = ap suc last in
        let own : has known q ≡ true = next_knew (suc n) q e ∙ own_known n (fates_of x.cards) next next_history q (suc n) bq (omega arith) (omega (arith, (next_further (suc n) e).now)) in
        let some : known ≡ 0 → ⊥ = λ z. clash (sym (ap (λ a. has a q) z ∙ has_none q) ∙ own) in
        let lowest = zeros_lowest 32 known ((g.tied k hk).stands q bq).seated.fits some in
        let there = some_held (ballot_in x.proposals k (count_trailing_zeros 32 known)) (known_proposed (count_trailing_zeros 32 known) lowest.1) in
        (there.0, ap (proposal_of x.proposals k) (cond-false (known == 0) None (Some (count_trailing_zeros 32 known)) (ne_eqb known 0 some)) ∙ there.1)

    pub decide_whole : SoundFlooding (decide_on x k q)
    decide_whole =
        let n : ℕ = x.cards.count in
        let o : Option ℕ = proposal_of x.proposals k (low (seat_in x.seats k q).known) in
        let t = g.tied k hk in
        let u = t.stands q bq in
        let six : q < 6 = omega (arith, g.sound.few) in
        let moved = next_further (suc n) (ap suc last) in
        let same : ballot_in (with_ballot x.decisions k q o) k q ≡ o = cell_same x.decisions k q o None g.decisions_shaped hk six in
        action_whole x x.proposals (with_ballot x.decisions k q o) x.seats x.wire x.kept k q (suc n) next g hk bq g.proposals_shaped (shaped_after x.decisions k q o g.decisions_shaped hk) g.seats_shaped (g.proposed_sets k q)
        (record {
          seats_stay = λ j p d. refl;
          decisions_stay = λ j p d. cell_other x.decisions k q j p o None g.decisions_shaped hk six d;
          proposals_stay = λ j p d. refl;
          proposal_stands = λ v i. i;
          history = next_history;
          moved = moved;
          stands = record {
            stage = moved.now ∙ sym (cond-true _ (suc n) round (ap is_some (same ∙ choice.1)));
            proposed = u.proposed;
            seated = seated_stays n (fates_of x.cards) now next q (suc n) q (seat_in x.seats k q) t.history moved (λ i. omega (arith, i.1, last)) u.seated;
            self_counted = u.self_counted;
            decided = λ v i. (last, sym same ∙ i);
          };
          items = g.items;
          wire_says = all_say_stays n now next q (suc n) k x.wire moved t.wire_says;
          wire_others = λ j _ i. i.wire_says;
          wire_stays = λ j i a b w. w;
          kept_says = all_say_stays n now next q (suc n) k x.kept moved t.kept_says;
          kept_others = λ j _ i. i.kept_says;
          kept_stays = λ j i a b _ w. w;
          sent = λ _ i. absurd (omega arith);
          taken = λ _ i. absurd (omega arith);
        })

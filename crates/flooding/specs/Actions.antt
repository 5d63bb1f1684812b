-- One card acts in one instance: what holds together before does so afterwards, where the card stands as its history says and its mail is accounted for.
use Rattle.std.specs.Prelude.{◌≡◌, ℕ, ◌^◌, ◌<◌, ◌≤◌, true, false, ◌⊎◌, List, is_some, Some, None, Option, ◌≢◌}
use Rattle.std.proofs.Common.{sym, ap, subst, ◌∙◌, inl, inr, ⊎_elim, arith}
use Rattle.std.specs.List.{AllByRecursion, list_any}
use Rattle.std.proofs.lemmas.Bool.{cases_eq, cases_lt}
use Rattle.cards.specs.Cards.{crashed_in}
use Rattle.tables.specs.Tables.{Shaped, ballot_in}
use Rattle.wire.specs.declared.Item.{Item}
use Rattle.histories.specs.Histories.{Past, History}
use Rattle.flooding.specs.Seats.{seat_in}
use Rattle.flooding.specs.declared.seats.Seat.{Seat}
use Rattle.flooding.specs.declared.mail.Load.{Load}
use Rattle.flooding.specs.Flooding.{FloodingState, proposal_of}
use Rattle.flooding.specs.Made.{fates_of, brings, Underway, Stands, SaysIn, Tied, SoundFlooding}
use Rattle.flooding.specs.Pasts.{Further, round_grows}
use Rattle.flooding.specs.Sits.{seated_stays}

-- Another place than (k, q).
abbrev pub Elsewhere : ℕ → ℕ → ℕ → ℕ → Type 0
Elsewhere k q j p = (j ≡ k) × (p ≡ q) → ⊥

pub here_or_elsewhere : (k q j p : ℕ) → ((j ≡ k) × (p ≡ q)) ⊎ Elsewhere k q j p
here_or_elsewhere k q j p = ⊎_elim (λ a. ⊎_elim (λ b. inl (a, b)) (λ b. inr (λ e. b e.1)) (cases_eq p q)) (λ a. inr (λ e. a e.0)) (cases_eq j k)

-- A card acts where the cards stay.
abbrev pub after : FloodingState → List (List (Option ℕ)) → List (List (Option ℕ)) → List (List Seat) → List (Item Load) → List (Item Load) → FloodingState
after x t d ss w ks = record { cards = x.cards; proposals = t; decisions = d; seats = ss; wire = w; kept = ks }

-- Card q acts in instance k and comes to stage r with the history l.
pub record Action (x : FloodingState) (t d : List (List (Option ℕ))) (ss : List (List Seat)) (w ks : List (Item Load)) (k q r : ℕ) (g : Tied x k) (l : Past) : Type 0 where
  pub seats_stay : (j p : ℕ) → Elsewhere k q j p → seat_in ss j p ≡ seat_in x.seats j p
  pub decisions_stay : (j p : ℕ) → Elsewhere k q j p → ballot_in d j p ≡ ballot_in x.decisions j p
  pub proposals_stay : (j p : ℕ) → Elsewhere k q j p → ballot_in t j p ≡ ballot_in x.proposals j p
  pub proposal_stands : (s : ℕ) → ballot_in x.proposals k q ≡ Some s → ballot_in t k q ≡ Some s
  pub history : History x.cards.count (fates_of x.cards) l
  pub moved : Further g.past l q r
  pub stands : Stands x.cards.count l t k q (ballot_in d k q) (seat_in ss k q)
  pub items : AllByRecursion (Underway x.cards) w
  pub wire_says : AllByRecursion (SaysIn x.cards.count l k) w
  pub wire_others : (j : ℕ) → (j ≢ k) → (o : Tied x j) → AllByRecursion (SaysIn x.cards.count o.past j) w
  pub wire_stays : (j s a b : ℕ) → list_any (brings j s a b) x.wire ≡ true → list_any (brings j s a b) w ≡ true
  pub kept_says : AllByRecursion (SaysIn x.cards.count l k) ks
  pub kept_others : (j : ℕ) → (j ≢ k) → (o : Tied x j) → AllByRecursion (SaysIn x.cards.count o.past j) ks
  -- all stays kept but what was kept for it and the round that it comes to
  pub kept_stays : (j s a b : ℕ) → ((j ≡ k) × (s ≡ r) × (b ≡ q) → ⊥) → list_any (brings j s a b) x.kept ≡ true → list_any (brings j s a b) ks ≡ true
  -- on entering a round it sends to all, and takes in what was kept
  pub sent : g.past.round q < r → r ≤ x.cards.count → (b : ℕ) → b < x.cards.count → (b ≢ q) → crashed_in x.cards b ≡ false → list_any (brings k r q b) w ≡ true
  pub taken : g.past.round q < r → r ≤ x.cards.count → (a : ℕ) → a < x.cards.count → crashed_in x.cards a ≡ false → list_any (brings k r a q) x.kept ≡ true → l.counted q r a ≡ true

module _ (x : FloodingState) (t d : List (List (Option ℕ))) (ss : List (List Seat)) (w ks : List (Item Load)) (k q r : ℕ) (g : Tied x k) (l : Past) (a : Action x t d ss w ks k q r g l) where
  proposal_grows : (j s : ℕ) (o : Option ℕ) → proposal_of x.proposals j o ≡ Some s → proposal_of t j o ≡ Some s
  proposal_grows j s None e = e
  proposal_grows j s (Some p) e =
      ⊎_elim
      (λ h. subst (λ i. ballot_in t i p ≡ Some s) (sym h.0) (subst (λ i. ballot_in t k i ≡ Some s) (sym h.1) (a.proposal_stands s (subst (λ i. ballot_in x.proposals k i ≡ Some s) h.1 (subst (λ i. ballot_in x.proposals i p ≡ Some s) h.0 e)))))
      (λ h. a.proposals_stay j p h ∙ e)
      (here_or_elsewhere k q j p)

  elsewhere_stands : (h : Past) (j p : ℕ) → Elsewhere k q j p → Stands x.cards.count h x.proposals j p (ballot_in x.decisions j p) (seat_in x.seats j p) → Stands x.cards.count h t j p (ballot_in d j p) (seat_in ss j p)
  elsewhere_stands h j p e u =
      let n : ℕ = x.cards.count in
      subst (λ o. Stands n h t j p o (seat_in ss j p)) (sym (a.decisions_stay j p e))
      (subst (Stands n h t j p (ballot_in x.decisions j p)) (sym (a.seats_stay j p e))
      (record {
        stage = u.stage;
        proposed = ap is_some (a.proposals_stay j p e) ∙ u.proposed;
        seated = u.seated;
        self_counted = u.self_counted;
        decided = λ v i. ((u.decided v i).0, proposal_grows j v _ (u.decided v i).1);
      }))

  others_tied : (j : ℕ) → (j ≢ k) → Tied x j → Tied (after x t d ss w ks) j
  others_tied j e o =
      record {
        past = o.past;
        history = o.history;
        stands = λ p b. elsewhere_stands o.past j p (λ i. e i.0) (o.stands p b);
        wire_says = a.wire_others j e o;
        kept_says = a.kept_others j e o;
        due = λ p b s bp bb i up ub o1 m hp hb. ⊎_elim (λ v. inl (a.wire_stays j s p b v)) (⊎_elim (λ v. inr (inl (v.0, a.kept_stays j s p b (λ z. e z.0) v.1))) (λ v. inr (inr v))) (o.due p b s bp bb i up ub o1 m hp hb);
      }

  due_after : (p b s : ℕ) → p < x.cards.count → b < x.cards.count → (b ≢ p) → crashed_in x.cards p ≡ false → crashed_in x.cards b ≡ false
      → 1 ≤ s → s ≤ x.cards.count → s ≤ l.round p → l.round b ≤ s
      → (list_any (brings k s p b) w ≡ true) ⊎ (((l.round b < s) × (list_any (brings k s p b) ks ≡ true)) ⊎ (l.counted b s p ≡ true))
  due_after p b s bp bb e up ub begun last hp hb =
      let h = g.past in
      let m = a.moved in
      let grows = round_grows h l q r b m in
      ⊎_elim
      (λ new.
      let z : p ≡ q = ⊎_elim (λ i. i) (λ i. absurd (omega (arith, m.others p i))) (cases_eq p q) in
      let hq : h.round q < s = subst (λ i. h.round i < s) z new in
      let lq : s ≤ l.round q = subst (λ i. s ≤ l.round i) z hp in
      let y : s ≡ r = omega (arith, m.now, m.high) in
      inl (subst (λ i. list_any (brings k s i b) w ≡ true) (sym z) (subst (λ i. list_any (brings k i q b) w ≡ true) (sym y) (a.sent (omega arith) (omega arith) b bb (λ i. e (i ∙ sym z)) ub))))
      (λ old.
      ⊎_elim
      (λ v. inl (a.wire_stays k s p b v))
      (⊎_elim
      (λ v.
      ⊎_elim
      (λ still. inr (inl (still, a.kept_stays k s p b (λ z. let i = ap l.round z.2 in omega (arith, still, m.now, i, z.1)) v.1)))
      (λ came.
      let before = v.0 in
      let z : b ≡ q = ⊎_elim (λ i. i) (λ i. absurd (omega (arith, m.others b i))) (cases_eq b q) in
      let lq : l.round q ≡ s = ap l.round (sym z) ∙ omega arith in
      let hq : h.round q < s = subst (λ i. h.round i < s) z before in
      let y : s ≡ r = omega (arith, m.now) in
      let kept : list_any (brings k r p q) x.kept ≡ true = subst (λ i. list_any (brings k i p q) x.kept ≡ true) y (subst (λ i. list_any (brings k s p i) x.kept ≡ true) z v.1) in
      inr (inr (subst (λ i. l.counted i s p ≡ true) (sym z) (subst (λ i. l.counted q i p ≡ true) (sym y) (a.taken (omega arith) (omega arith) p bp up kept)))))
      (cases_lt (l.round b) s))
      (λ v. inr (inr (m.counted_grows b s p v))))
      (g.due p b s bp bb e up ub begun last old (omega arith)))
      (cases_lt (h.round p) s)

  here_tied : Tied (after x t d ss w ks) k
  here_tied =
      let n : ℕ = x.cards.count in
      let h = g.past in
      record {
        past = l;
        history = a.history;
        stands = λ p b.
            ⊎_elim
            (λ (e : p ≡ q). subst (λ i. Stands n l t k i (ballot_in d k i) (seat_in ss k i)) (sym e) a.stands)
            (λ e.
            let u = g.stands p b in
            elsewhere_stands l k p (λ i. e i.1)
            (record {
              stage = a.moved.others p e ∙ u.stage;
              proposed = u.proposed;
              seated = seated_stays n (fates_of x.cards) h l q r p (seat_in x.seats k p) g.history a.moved (λ i. e i.0) u.seated;
              self_counted = u.self_counted;
              decided = u.decided;
            }))
            (cases_eq p q);
        wire_says = a.wire_says;
        kept_says = a.kept_says;
        due = due_after;
      }

-- The whole state, with the proposal that the card has put forward.
pub action_whole : (x : FloodingState) (t d : List (List (Option ℕ))) (ss : List (List Seat)) (w ks : List (Item Load)) (k q r : ℕ) (l : Past) (g : SoundFlooding x) (hk : k < 32) → q < x.cards.count
    → Shaped t → Shaped d → Shaped ss → ((s : ℕ) → ballot_in t k q ≡ Some s → (0 < s) × (s < 2 ^ 32)) → Action x t d ss w ks k q r (g.tied k hk) l → SoundFlooding (after x t d ss w ks)
action_whole x t d ss w ks k q r l g hk bq st sd sss new a =
    let n : ℕ = x.cards.count in
    record {
      sound = g.sound;
      proposals_shaped = st;
      decisions_shaped = sd;
      seats_shaped = sss;
      proposers = λ j p h. ⊎_elim (λ e. subst (λ i. i < n) (sym e.1) bq) (λ e. g.proposers j p (sym (ap is_some (a.proposals_stay j p e)) ∙ h)) (here_or_elsewhere k q j p);
      deciders = λ j p h. ⊎_elim (λ e. subst (λ i. i < n) (sym e.1) bq) (λ e. g.deciders j p (sym (ap is_some (a.decisions_stay j p e)) ∙ h)) (here_or_elsewhere k q j p);
      proposed_sets = λ j p s h.
          ⊎_elim
          (λ e. new s (subst (λ i. ballot_in t k i ≡ Some s) e.1 (subst (λ i. ballot_in t i p ≡ Some s) e.0 h)))
          (λ e. g.proposed_sets j p s (sym (a.proposals_stay j p e) ∙ h))
          (here_or_elsewhere k q j p);
      items = a.items;
      tied = λ j hj.
          ⊎_elim
          (λ (e : j ≡ k). subst (Tied (after x t d ss w ks)) (sym e) (here_tied x t d ss w ks k q r (g.tied k hk) l a))
          (λ e. others_tied x t d ss w ks k q r (g.tied k hk) l a j e (g.tied j hj))
          (cases_eq j k);
    }

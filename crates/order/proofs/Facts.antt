-- What the invariant gives of a state: the clauses of the law, and that logs, instances and steps stay small.
use Rattle.std.proofs.Common.{◌≡◌, ℕ, zero, suc, ◌+◌, ◌*◌, ◌^◌, ◌<◌, ◌≤◌, Bool, true, false, eqb, ◌⊎◌, List, [], ◌∷◌, ◌++◌, length, is_some, Some, None, Option, sym, refl, ap, ◌∙◌, subst, inl, inr, append_assoc, append-nil, mul-le-mul_right, add-mul, mul-add, mul_left_comm, arith, length-append}
use Rattle.std.proofs.lemmas.Nat.{mul-le}
use Rattle.std.proofs.lemmas.Bool.{eqb-true, cases_Bool, cases_eq, cases_lt, or_cases, both_ways}
use Rattle.std.proofs.lemmas.Option.{none-some}
use Rattle.notes.proofs.Counting.{total_le, total_const}
use Rattle.parts.specs.Views.{BroadcastView, ConsensusView, Runs, FullSuspicion, Quiet}
use Rattle.parts.specs.Broadcasting.{UniformAgreement}
use Rattle.parts.specs.Broadcasting as broadcast
use Rattle.parts.specs.Deciding as consensus
use Rattle.parts.proofs.Options.{some_held}
use Rattle.order.specs.Words.{In, among, NoneTwice, Begins, one_if, step_bound}
use Rattle.order.specs.Views.{Ledger, IsPosted, posts, Ranks, Rest}
use Rattle.order.specs.Law.{OneOrder}
use Rattle.order.proofs.Lists.{among_append, none_twice_append, pigeons}
use Rattle.order.proofs.Invariant.{LogAfter, spent, Consistent}
use Rattle.order.proofs.Invariant.LogAfter.{at_first, one_more}

abbrev Agreed : (ℕ → ℕ → Option ℕ) → Type 0
Agreed decision = (k p q s t : ℕ) → decision k p ≡ Some s → decision k q ≡ Some t → s ≡ t

-- Cards that have come to one instance have one log.
pub same_log : {batch : ℕ → List ℕ} {decision : ℕ → ℕ → Option ℕ} {p q k : ℕ} {l l' : List ℕ} → Agreed decision
    → LogAfter batch decision p k l → LogAfter batch decision q k l' → l ≡ l'
same_log a at_first at_first = refl
same_log {batch} {decision} {p} {q} a (one_more {k} {l} s m e) (one_more {l = l'} t n f) =
    ap (λ x. x ++ batch s) (same_log a m n) ∙ ap (λ x. l' ++ batch x) (a k p q s t e f)

begins : {batch : ℕ → List ℕ} {decision : ℕ → ℕ → Option ℕ} {p q k k' : ℕ} {l l' : List ℕ} → Agreed decision
    → k ≤ k' → LogAfter batch decision p k l → LogAfter batch decision q k' l' → Begins l l'
begins {batch} {decision} {p} {k = k} {l = l} a le m at_first =
    let e : k ≡ 0 = omega arith in
    ([], sym (append-nil l ∙ same_log {q = p} a (subst (λ j. LogAfter batch decision p j l) e m) at_first))
begins {batch} {decision} {p} {k = k} {l = l} a le m (one_more {k = j} {l = l'} s n f) =
    elim (cases_lt k (suc j)) [
      | inl lt ↦ let b = begins a (omega arith) m n in (b.0 ++ batch s, ap (λ x. x ++ batch s) b.1 ∙ append_assoc l b.0 (batch s))
      | inr ge ↦ let e : k ≡ suc j = omega arith in
          ([], sym (append-nil l ∙ same_log a (subst (λ j. LogAfter batch decision p j l) e m) (one_more s n f)))
    ]

-- A card has a decision in each instance behind it.
decided_behind : {batch : ℕ → List ℕ} {decision : ℕ → ℕ → Option ℕ} {p k : ℕ} {l : List ℕ}
    → LogAfter batch decision p k l → (i : ℕ) → i < k → (s : ℕ) × (decision i p ≡ Some s)
decided_behind at_first i lt = absurd (omega arith)
decided_behind {decision = decision} {p = p} (one_more {k = j} s n f) i lt =
    elim (cases_lt i j) [
      | inl below ↦ decided_behind n i below
      | inr ge ↦ let e : j ≡ i = omega arith in (s, subst (λ x. decision x p ≡ Some s) e f)
    ]

one_long : (m : ℕ) (l : List ℕ) → among m l ≡ true → 1 ≤ length l
one_long m [] h = absurd (both_ways false refl h)
one_long m (x ∷ xs) h = omega arith

pub one_most : {A : Type 0} (o : Option A) → one_if o ≤ 1
one_most None = omega arith
one_most (Some x) = omega arith

pub posts_few : (b : BroadcastView) → posts b ≤ 32
unfolding posts
posts_few b = omega (arith, total_le (λ m. one_if (b.poster m)) (λ _. 1) 32 (λ m l. one_most (b.poster m)), total_const 1 32)

-- A running card below n whose f is the least.
pub record Least (n : ℕ) (crashed : ℕ → Bool) (f : ℕ → ℕ) : Type 0 where
  pub who : ℕ
  pub card : who < n
  pub up : crashed who ≡ false
  pub low : (q : ℕ) → q < n → crashed q ≡ false → f who ≤ f q

least : (n : ℕ) (crashed : ℕ → Bool) (f : ℕ → ℕ) → ((p : ℕ) → p < n → crashed p ≡ false → ⊥) ⊎ Least n crashed f
least zero crashed f = inl (λ p l e. omega arith)
least (suc n) crashed f = by (cases_Bool (crashed n)) (least n crashed f)
  where
    step : (P : ℕ → Type 0) → P n → ((q : ℕ) → q < n → P q) → (q : ℕ) → q < suc n → P q
    step P here below q l = elim (cases_eq q n) [
      | inl e ↦ subst P (sym e) here
      | inr ne ↦ below q (omega arith)
    ]

    by : (crashed n ≡ true) ⊎ (crashed n ≡ false)
        → ((p : ℕ) → p < n → crashed p ≡ false → ⊥) ⊎ Least n crashed f
        → ((p : ℕ) → p < suc n → crashed p ≡ false → ⊥) ⊎ Least (suc n) crashed f
    by (inl t) (inl none) = inl (step (λ p. crashed p ≡ false → ⊥) (λ h. both_ways (crashed n) h t) none)
    by (inl t) (inr w) = inr (record {
      who = w.who;
      card = omega (arith, w.card);
      up = w.up;
      low = step (λ q. crashed q ≡ false → f w.who ≤ f q) (λ h. absurd (both_ways (crashed n) h t)) w.low;
    })
    by (inr u) (inl none) = inr (record {
      who = n;
      card = omega arith;
      up = u;
      low = step (λ q. crashed q ≡ false → f n ≤ f q) (λ h. omega arith) (λ q l h. absurd (none q l h));
    })
    by (inr u) (inr w) = elim (cases_lt (f n) (f w.who)) [
      | inl lt ↦ inr (record {
        who = n;
        card = omega arith;
        up = u;
        low = step (λ q. crashed q ≡ false → f n ≤ f q) (λ h. omega arith) (λ q l h. omega (arith, w.low q l h));
      })
      | inr ge ↦ inr (record {
        who = w.who;
        card = omega (arith, w.card);
        up = w.up;
        low = step (λ q. crashed q ≡ false → f w.who ≤ f q) (λ h. ge) w.low;
      })
    ]

module _ {B C book : ℕ} {batch : ℕ → List ℕ} {b : BroadcastView} {c : ConsensusView} {o : Ledger}
    (R : Ranks batch book) (LB : broadcast.Lawful b) (LC : consensus.Lawful c) (I : Consistent B C book batch b c o) where
  handed_was_posted : (p m : ℕ) → In (b.handed p) m → IsPosted b m
  handed_was_posted p m h = some_held (b.poster m) (LB.only_posted_notes_handed p m h)

  decider_proposed : (k p s : ℕ) → c.decision k p ≡ Some s → (t : ℕ) × (c.proposal k p ≡ Some t)
  decider_proposed k p s e = some_held (c.proposal k p) (LC.decided_have_proposed k p (ap is_some e))

  -- A decided batch has no note of the log before it.
  batch_is_new : (p k s : ℕ) (l : List ℕ) → LogAfter batch c.decision p k l → c.decision k p ≡ Some s → (m : ℕ) → In s m → among m l ≡ false
  batch_is_new p k s l n e m h =
      let v = LC.decisions_were_proposed k p s e in
      let S = I.sound k v.0 s v.1 in
      subst (λ x. among m x ≡ false) (same_log LC.decisions_equal S.made n) (S.fresh m h)

  none_twice : (p : ℕ) {k : ℕ} {l : List ℕ} → LogAfter batch c.decision p k l → NoneTwice l
  none_twice p at_first = tt
  none_twice p (one_more {k} {l} s n e) =
      none_twice_append l (batch s) (none_twice p n) (R.once s)
      (λ m h. batch_is_new p k s l n e m (R.members s m h))

  only_posted : (p m : ℕ) {k : ℕ} {l : List ℕ} → LogAfter batch c.decision p k l → among m l ≡ true → IsPosted b m
  only_posted p m at_first h = absurd (both_ways false refl h)
  only_posted p m (one_more {k} {l} s n e) h =
      elim (or_cases (among m l) (among m (batch s)) (sym (among_append m l (batch s)) ∙ h)) [
        | inl i ↦ only_posted p m n i
        | inr i ↦ let v = LC.decisions_were_proposed k p s e in
            handed_was_posted v.0 m ((I.sound k v.0 s v.1).handed m (R.members s m i))
      ]

  -- No batch is empty.
  long_enough : (p : ℕ) {k : ℕ} {l : List ℕ} → LogAfter batch c.decision p k l → k ≤ length l
  long_enough p at_first = omega arith
  long_enough p (one_more {k} {l} s n e) =
      let v = LC.decisions_were_proposed k p s e in
      let S = I.sound k v.0 s v.1 in
      let m = S.some.0 in
      let known = I.in_book m (handed_was_posted v.0 m (S.handed m S.some.1)) in
      omega (arith, long_enough p n, length-append l (batch s), one_long m (batch s) (R.covers s m known S.some.1))

  counted : (m : ℕ) → IsPosted b m → (m < 32) × (1 ≤ one_if (b.poster m))
  counted m w = (LB.posted_notes_below_32 m (ap is_some w.1), omega (arith, ap one_if w.1))

  -- What is taken is posted, and nothing is taken twice.
  taken_within_posts : (p : ℕ) {k : ℕ} {l : List ℕ} → LogAfter batch c.decision p k l → length l ≤ posts b
  unfolding posts
  taken_within_posts p n = pigeons _ (λ i. one_if (b.poster i)) 32 (none_twice p n) (λ i h. counted i (only_posted p i n h))

  -- A posted note that is not in a log leaves room for one more instance.
  pub room : (p m : ℕ) → among m (o.log p) ≡ false → IsPosted b m → o.instance p + 1 ≤ posts b
  unfolding posts
  room p m out w =
      let all = pigeons (m ∷ o.log p) (λ i. one_if (b.poster i)) 32 (out, none_twice p (I.made p))
      (λ i h. elim (or_cases (eqb i m) (among i (o.log p)) h) [
        | inl e ↦ counted i (subst (IsPosted b) (sym (eqb-true i m e)) w)
        | inr l ↦ counted i (only_posted p i (I.made p) l)
      ]) in
      omega (arith, all, long_enough p (I.made p))

  pub instance_within_posts : (p : ℕ) → o.instance p ≤ posts b
  instance_within_posts p = omega (arith, taken_within_posts p (I.made p), long_enough p (I.made p))

  -- Whatever part of a decision a card takes, there are as many posts as its log then has notes.
  pub fits_list : (p s : ℕ) (l : List ℕ) → c.decision (o.instance p) p ≡ Some s → NoneTwice l → ((m : ℕ) → among m l ≡ true → In s m)
      → length (o.log p) + length l ≤ posts b
  unfolding posts
  fits_list p s l e once inside =
      let v = LC.decisions_were_proposed (o.instance p) p s e in
      let S = I.sound (o.instance p) v.0 s v.1 in
      let new = λ (m : ℕ) (h : among m l ≡ true). batch_is_new p (o.instance p) s (o.log p) (I.made p) e m (inside m h) in
      let all = pigeons (o.log p ++ l) (λ i. one_if (b.poster i)) 32 (none_twice_append (o.log p) l (none_twice p (I.made p)) once new)
      (λ i h. elim (or_cases (among i (o.log p)) (among i l) (sym (among_append i (o.log p) l) ∙ h)) [
        | inl k ↦ counted i (only_posted p i (I.made p) k)
        | inr k ↦ counted i (handed_was_posted v.0 i (S.handed i (inside i k)))
      ]) in
      omega (arith, all, length-append (o.log p) l)

  proposed_within_posts : (p : ℕ) → o.instance p + one_if (c.proposal (o.instance p) p) ≤ posts b
  proposed_within_posts p = go (c.proposal (o.instance p) p) refl
    where
      go : (x : Option ℕ) → c.proposal (o.instance p) p ≡ x → o.instance p + one_if x ≤ posts b
      go None e = omega (arith, instance_within_posts p)
      go (Some s) e =
          let S = I.sound (o.instance p) p s e in
          let m = S.some.0 in
          room p m (subst (λ l. among m l ≡ false) (same_log LC.decisions_equal S.made (I.made p)) (S.fresh m S.some.1))
          (handed_was_posted p m (S.handed m S.some.1))

  spent_within : (p : ℕ) → spent C c o.instance p ≤ posts b * (C + 2)
  spent_within p =
      let i = o.instance p in
      let w = one_if (c.proposal i p) in
      let most = mul-le-mul_right (C + 2) (proposed_within_posts p) in
      let parts = add-mul i w (C + 2) in
      let right : w * (C + 2) ≡ w * (C + 1) + w = omega (arith, mul-add w C 2, mul-add w C 1) in
      omega (arith, most, parts, right)

  pub within_bound : o.steps ≤ step_bound (posts b) b.net.cards B C
  within_bound =
      let t = posts b * (C + 2) in
      let each = total_le (spent C c o.instance) (λ _. t) b.net.cards (λ p l. spent_within p) in
      let all = total_const t b.net.cards in
      let parts = mul-add (posts b) B (b.net.cards * (C + 2)) in
      let swap : posts b * (b.net.cards * (C + 2)) ≡ b.net.cards * t = mul_left_comm (posts b) b.net.cards (C + 2) in
      omega (arith, I.paid, each, all, parts, swap)

  -- So the count of steps fits a machine word.
  pub steps_small : B < 2 ^ 32 → C < 2 ^ 32 → o.steps < 2 ^ 63
  steps_small hb hc =
      let per = mul-le b.net.cards (C + 2) 6 (2 ^ 33) LB.net.few_cards (omega arith) in
      let all = mul-le (posts b) (B + b.net.cards * (C + 2)) 32 (2 ^ 37) (posts_few b) (omega (arith, per)) in
      omega (arith, within_bound, all)

  outside_empty : (p : ℕ) → b.net.cards ≤ p → o.log p ≡ []
  outside_empty p l = same_log {p = p} {q = p} LC.decisions_equal (subst (λ k. LogAfter batch c.decision p k (o.log p)) (I.outside p l) (I.made p)) at_first

  to_broadcast : (p : ℕ) → Runs c.net p → Runs b.net p
  to_broadcast p r = record { card = omega (arith, r.card, I.net.cards); up = sym (I.net.crashed p) ∙ r.up }

  to_consensus : (p : ℕ) → Runs b.net p → Runs c.net p
  to_consensus p r = record { card = omega (arith, r.card, I.net.cards); up = I.net.crashed p ∙ r.up }

  module _ (rest : Rest b c o) (full : FullSuspicion b.net) where
    broadcast_quiet : Quiet b.net
    broadcast_quiet = record { empty = rest.broadcast_empty; known = full }

    consensus_quiet : Quiet c.net
    consensus_quiet = record {
      empty = rest.consensus_empty;
      known = λ q p r l e. I.net.suspects q p ∙ full q p (to_broadcast q r) (omega (arith, l, I.net.cards)) (sym (I.net.crashed p) ∙ e);
    }

    equal_at_rest : (p q m : ℕ) → Runs b.net p → Runs b.net q → In (b.handed p) m → In (b.handed q) m
    equal_at_rest p q m rp rq h = subst (λ s. In s m) (LB.quiet_sets_equal broadcast_quiet p q rp rq) h

    decided_at_rest : (k : ℕ) → ((p : ℕ) → Runs c.net p → (t : ℕ) × (c.proposal k p ≡ Some t)) → (p : ℕ) → Runs c.net p → (s : ℕ) × (c.decision k p ≡ Some s)
    decided_at_rest k all p r = some_held (c.decision k p) (LC.quiet_all_decided consensus_quiet k (λ q rq. ap is_some (all q rq).1) p r)

    -- p₀ is a running card whose instance is the least of those of running cards.
    module _ (p₀ : ℕ) (r₀ : Runs b.net p₀) (low : (q : ℕ) → Runs b.net q → o.instance p₀ ≤ o.instance q) where
      -- What is handed to a running card is in the log of p₀: otherwise all have proposed in its instance, so it could take.
      handed_in_least : (q m : ℕ) → Runs b.net q → In (b.handed q) m → among m (o.log p₀) ≡ true
      handed_in_least q m r h = elim (cases_Bool (among m (o.log p₀))) [
        | inl t ↦ t
        | inr f ↦ let d = decided_at_rest (o.instance p₀) (all f) p₀ (to_consensus p₀ r₀) in
            absurd (none-some d.0 (sym (rest.no_take p₀ r₀) ∙ d.1))
      ]
        where
          all : among m (o.log p₀) ≡ false → (x : ℕ) → Runs c.net x → (t : ℕ) × (c.proposal (o.instance p₀) x ≡ Some t)
          all f x rx = elim (cases_lt (o.instance p₀) (o.instance x)) [
            | inl lt ↦ let s = decided_behind (I.made x) (o.instance p₀) lt in decider_proposed (o.instance p₀) x s.0 s.1
            | inr ge ↦
                let e : o.instance x ≡ o.instance p₀ = omega (arith, low x (to_broadcast x rx)) in
                let l : o.log p₀ ≡ o.log x = same_log LC.decisions_equal (I.made p₀) (subst (λ k. LogAfter batch c.decision x k (o.log x)) e (I.made x)) in
                let t = rest.no_proposal x m (to_broadcast x rx) (equal_at_rest q x m r (to_broadcast x rx) h) (subst (λ y. among m y ≡ false) l f) in
                subst (λ k. (t : ℕ) × (c.proposal k x ≡ Some t)) e t
          ]

      -- A card whose handed notes are all in that log is not beyond that instance: to come there it had a new note.
      not_beyond : (q : ℕ) → ((m : ℕ) → In (b.handed q) m → among m (o.log p₀) ≡ true) → o.instance q ≤ o.instance p₀
      not_beyond q h = elim (cases_lt (o.instance p₀) (o.instance q)) [
        | inl lt ↦
            let d = decided_behind (I.made q) (o.instance p₀) lt in
            let t = decider_proposed (o.instance p₀) q d.0 d.1 in
            let S = I.sound (o.instance p₀) q t.0 t.1 in
            let m = S.some.0 in
            let out = subst (λ y. among m y ≡ false) (same_log LC.decisions_equal S.made (I.made p₀)) (S.fresh m S.some.1) in
            absurd (both_ways (among m (o.log p₀)) out (h m (S.handed m S.some.1)))
        | inr ge ↦ ge
      ]

      log_of_least : (q : ℕ) → Runs b.net q → o.log q ≡ o.log p₀
      log_of_least q r =
          let e : o.instance q ≡ o.instance p₀ = omega (arith, low q r, not_beyond q (λ m h. handed_in_least q m r h)) in
          same_log LC.decisions_equal (subst (λ k. LogAfter batch c.decision q k (o.log q)) e (I.made q)) (I.made p₀)

    least_running : (p : ℕ) → Runs b.net p → Least b.net.cards b.net.crashed o.instance
    least_running p r = elim (least b.net.cards b.net.crashed o.instance) [
      | inl none ↦ absurd (none p r.card r.up)
      | inr w ↦ w
    ]

    -- What holds wherever there is a running card with the least instance holds wherever a card runs.
    at_least : (p : ℕ) → Runs b.net p → {P : Type 0}
        → ((p₀ : ℕ) → Runs b.net p₀ → ((q : ℕ) → Runs b.net q → o.instance p₀ ≤ o.instance q) → P) → P
    at_least p r f =
        let w = least_running p r in
        f w.who (record { card = w.card; up = w.up }) (λ q s. w.low q s.card s.up)

    agree : (p q : ℕ) → Runs b.net p → Runs b.net q → o.log p ≡ o.log q
    agree p q rp rq = at_least p rp (λ p₀ r₀ low. log_of_least p₀ r₀ low p rp ∙ sym (log_of_least p₀ r₀ low q rq))

    logged : (p q m : ℕ) → Runs b.net p → Runs b.net q → b.poster m ≡ Some p → among m (o.log q) ≡ true
    logged p q m rp rq e = at_least p rp (λ p₀ r₀ low.
        subst (λ y. among m y ≡ true) (sym (log_of_least p₀ r₀ low q rq)) (handed_in_least p₀ r₀ low q m rq (LB.quiet_sets_full broadcast_quiet p q m rp rq e)))

    begin_running : UniformAgreement b → (p q : ℕ) → Runs b.net q → Begins (o.log p) (o.log q)
    begin_running U p q rq = at_least q rq (λ p₀ r₀ low.
        let le = not_beyond p₀ r₀ low p (λ m h. handed_in_least p₀ r₀ low p₀ m r₀ (U p p₀ m h r₀)) in
        begins LC.decisions_equal (omega (arith, le, low q rq)) (I.made p) (I.made q))

  pub one_order : OneOrder B C b c o
  one_order = record {
    one_log_begins_the_other = λ p q. elim (cases_lt (o.instance p) (o.instance q)) [
      | inl lt ↦ inl (begins LC.decisions_equal (omega arith) (I.made p) (I.made q))
      | inr ge ↦ inr (begins LC.decisions_equal ge (I.made q) (I.made p))
    ];
    no_note_twice = λ p. none_twice p (I.made p);
    only_posted_notes = λ p m h. only_posted p m (I.made p) h;
    no_log_outside = outside_empty;
    running_logs_agree_at_rest = agree;
    running_posts_logged_at_rest = logged;
    crashed_logs_begin_running_ones = begin_running;
    steps_within_bound = within_bound;
  }

-- A new carrier is consistent, and each call keeps it so.
use Rattle.std.proofs.Common.{◌≡◌, ℕ, suc, ◌+◌, ◌*◌, ◌<◌, ◌≤◌, false, ◌&&◌, ◌||◌, eqb, ◌⊎◌, List, is_some, Some, None, sym, refl, ap, ◌∙◌, subst, inl, inr, mul-le-mul_right, suc-mul, add-mul, arith, Ok}
use Rattle.std.proofs.lemmas.Bool.{cases_eq, eq-eqb, ne_eqb, and_from, and_left, and_right, cond-true, cond-false}
use Rattle.std.proofs.lemmas.Option.{none-some, same_Some}
use Rattle.notes.specs.Sets.{total}
use Rattle.notes.proofs.Counting.{total_le, total_trade}
use Rattle.parts.specs.Views.{Net, BroadcastView, ConsensusView, Runs}
use Rattle.parts.specs.Nets.{SameCards, NetCrashed, NetSuspected}
use Rattle.parts.specs.Refusals.{post_answer, propose_answer}
use Rattle.parts.specs.Broadcasting as broadcast
use Rattle.parts.specs.Deciding as consensus
use Rattle.parts.proofs.Accepted.{post_accepted, propose_accepted}
use Rattle.parts.proofs.Options.{some_held, none_held}
use Rattle.order.specs.Words.{In, one_if}
use Rattle.order.specs.Views.{Ledger, IsPosted, posts}
use Rattle.order.specs.Steps.{Waiting, Counted, Taken, Step, Run, New}
use Rattle.order.specs.Steps.Step.{post, carry_broadcast, carry_consensus, lose_broadcast, lose_consensus, crash, suspect, propose, take}
use Rattle.order.specs.Steps.Run.{none, then}
use Rattle.order.specs.Law.{OrderLaw}
use Rattle.order.proofs.Invariant.{LogAfter, SoundProposal, spent, Consistent}
use Rattle.order.proofs.Invariant.LogAfter.{at_first, one_more}
use Rattle.order.proofs.Facts.{one_order}

-- What a call may do to handed sets, posters, decisions and proposals.
abbrev HandedGrows : BroadcastView → BroadcastView → Type 0
HandedGrows v w = (p m : ℕ) → In (v.handed p) m → In (w.handed p) m

abbrev PostersStay : BroadcastView → BroadcastView → Type 0
PostersStay v w = (m : ℕ) → w.poster m ≡ v.poster m

abbrev DecisionsStand : ConsensusView → ConsensusView → Type 0
DecisionsStand v w = (k p s : ℕ) → v.decision k p ≡ Some s → w.decision k p ≡ Some s

abbrev ProposalsStay : ConsensusView → ConsensusView → Type 0
ProposalsStay v w = (k p : ℕ) → w.proposal k p ≡ v.proposal k p

sets_grow : (v w : BroadcastView) → ((p : ℕ) → w.handed p ≡ v.handed p) → HandedGrows v w
sets_grow v w e p m h = subst (λ s. In s m) (sym (e p)) h

decisions_kept : (v w : ConsensusView) → ((k p : ℕ) → w.decision k p ≡ v.decision k p) → DecisionsStand v w
decisions_kept v w e k p s h = e k p ∙ h

log_stays : {batch : ℕ → List ℕ} (v w : ConsensusView) {p k : ℕ} {l : List ℕ} → DecisionsStand v w
    → LogAfter batch v.decision p k l → LogAfter batch w.decision p k l
log_stays v w d at_first = at_first
log_stays v w {p} d (one_more {k} s m e) = one_more s (log_stays v w d m) (d k p s e)

proposal_stays : {batch : ℕ → List ℕ} {k q s : ℕ} (b b' : BroadcastView) (v w : ConsensusView) → HandedGrows b b' → DecisionsStand v w
    → SoundProposal batch b v.decision k q s → SoundProposal batch b' w.decision k q s
proposal_stays {q = q} b b' v w h d S = record {
  log = S.log;
  made = log_stays v w d S.made;
  fresh = S.fresh;
  handed = λ m i. h q m (S.handed m i);
  some = S.some;
}

net_refl : (v : Net) → SameCards v v
net_refl v = record { cards = refl; crashed = λ p. refl; suspects = λ q p. refl }

same_same : (v v' w w' : Net) → SameCards v v' → SameCards w w' → SameCards v w → SameCards v' w'
same_same v v' w w' s t T = record {
  cards = t.cards ∙ T.cards ∙ sym s.cards;
  crashed = λ p. t.crashed p ∙ T.crashed p ∙ sym (s.crashed p);
  suspects = λ q p. t.suspects q p ∙ T.suspects q p ∙ sym (s.suspects q p);
}

same_crash : (v v' w w' : Net) (p : ℕ) → NetCrashed v v' p → NetCrashed w w' p → SameCards v w → SameCards v' w'
same_crash v v' w w' p s t T = record {
  cards = t.cards ∙ T.cards ∙ sym s.cards;
  crashed = λ q. t.crash_stands q ∙ ap (λ x. eqb q p || x) (T.crashed q) ∙ sym (s.crash_stands q);
  suspects = λ q p. t.suspects q p ∙ T.suspects q p ∙ sym (s.suspects q p);
}

same_suspicion : (v v' w w' : Net) (q p : ℕ) → NetSuspected v v' q p → NetSuspected w w' q p → SameCards v w → SameCards v' w'
same_suspicion v v' w w' q p s t T = record {
  cards = t.cards ∙ T.cards ∙ sym s.cards;
  crashed = λ p. t.crashed p ∙ T.crashed p ∙ sym (s.crashed p);
  suspects = λ x y. t.suspicion_stands x y ∙ ap (λ z. (eqb x q && eqb y p) || z) (T.suspects x y) ∙ sym (s.suspicion_stands x y);
}

pub posts_stay : (v w : BroadcastView) → PostersStay v w → posts v ≤ posts w
unfolding posts
posts_stay v w s = total_le (λ m. one_if (v.poster m)) (λ m. one_if (w.poster m)) 32 (λ m l. omega (arith, ap one_if (s m)))

posts_more : (B : ℕ) (v w : BroadcastView) (p m : ℕ) → post_answer v p m ≡ Ok tt → broadcast.Posted B v w p m → posts v + 1 ≤ posts w
unfolding posts
posts_more B v w p m e P =
    let a = post_accepted v p m e in
    let more = total_trade (λ m. one_if (v.poster m)) (λ m. one_if (w.poster m)) 32 m 1 0 a.2
    (λ j _ ne. omega (arith, ap one_if (P.post_stands j ∙ cond-false (eqb j m) (Some p) (v.poster j) (ne_eqb j m ne))))
    (omega (arith, ap one_if (none_held (v.poster m) a.3), ap one_if (P.post_stands m ∙ cond-true (eqb m m) (Some p) (v.poster m) (eq-eqb m m refl)))) in
    omega arith

module _ {B C book : ℕ} {batch : ℕ → List ℕ} (b b' : BroadcastView) (c c' : ConsensusView) (o o' : Ledger) (I : Consistent B C book batch b c o) where
  log_kept : DecisionsStand c c' → (p : ℕ) → o'.log p ≡ o.log p → o'.instance p ≡ o.instance p
      → LogAfter batch c'.decision p (o'.instance p) (o'.log p)
  log_kept d p el ei = subst (λ k. LogAfter batch c'.decision p k (o'.log p)) (sym ei)
      (subst (λ l. LogAfter batch c'.decision p (o.instance p) l) (sym el) (log_stays c c' d (I.made p)))

  spent_kept : b'.net.cards ≡ b.net.cards → ProposalsStay c c' → ((p : ℕ) → o'.instance p ≡ o.instance p)
      → total (spent C c o.instance) b.net.cards ≤ total (spent C c' o'.instance) b'.net.cards
  spent_kept cs ps is = subst (λ n. total (spent C c o.instance) b.net.cards ≤ total (spent C c' o'.instance) n) (sym cs)
      (total_le (spent C c o.instance) (spent C c' o'.instance) b.net.cards
      (λ p l. subst (λ i. spent C c o.instance p ≤ i * (C + 2) + one_if (c'.proposal i p) * (C + 1)) (sym (is p))
      (subst (λ x. spent C c o.instance p ≤ o.instance p * (C + 2) + one_if x * (C + 1)) (sym (ps (o.instance p) p)) (omega arith))))

  posted_in_book : PostersStay b b' → (m : ℕ) → IsPosted b' m → m < book
  posted_in_book s m h = I.in_book m (h.0, sym (s m) ∙ h.1)

  -- A call that neither proposes nor takes.
  keep : b'.net.cards ≡ b.net.cards → SameCards b'.net c'.net → ((m : ℕ) → IsPosted b' m → m < book)
      → HandedGrows b b' → DecisionsStand c c' → ProposalsStay c c'
      → ((p : ℕ) → o'.log p ≡ o.log p) → ((p : ℕ) → o'.instance p ≡ o.instance p)
      → o'.steps + b'.net.work + c'.net.work + posts b * B ≤ o.steps + b.net.work + c.net.work + posts b' * B
      → Consistent B C book batch b' c' o'
  keep cs T k h d ps ls is paid = record {
    net = T;
    in_book = k;
    outside = λ p l. is p ∙ I.outside p (omega (arith, cs, l));
    made = λ p. log_kept d p (ls p) (is p);
    sound = λ k q s e. proposal_stays b b' c c' h d (I.sound k q s (sym (ps k q) ∙ e));
    paid = omega (arith, paid, I.paid, spent_kept cs ps is);
  }

module _ {B C book : ℕ} {batch : ℕ → List ℕ} (b b' : BroadcastView) (c : ConsensusView) (o o' : Ledger) (I : Consistent B C book batch b c o) where
  -- A post, a carry or a loss of the broadcast.
  keep_broadcast : SameCards b.net b'.net → ((m : ℕ) → IsPosted b' m → m < book) → HandedGrows b b'
      → ((p : ℕ) → o'.log p ≡ o.log p) → ((p : ℕ) → o'.instance p ≡ o.instance p)
      → o'.steps + b'.net.work + posts b * B ≤ o.steps + b.net.work + posts b' * B → Consistent B C book batch b' c o'
  keep_broadcast S k h ls is paid =
      keep b b' c c o o' I S.cards (same_same b.net b'.net c.net c.net S (net_refl c.net) I.net) k h
      (λ _ _ _ e. e) (λ _ _. refl) ls is (omega (arith, paid))

  keep_move : SameCards b.net b'.net → PostersStay b b' → HandedGrows b b' → b'.net.work < b.net.work → Counted o o'
      → Consistent B C book batch b' c o'
  keep_move S ps h w t = keep_broadcast S (posted_in_book b b' c c o o' I ps) h t.log t.instance
      (omega (arith, w, t.steps, mul-le-mul_right B (posts_stay b b' ps)))

module _ {B C book : ℕ} {batch : ℕ → List ℕ} (b : BroadcastView) (c c' : ConsensusView) (o o' : Ledger) (I : Consistent B C book batch b c o) where
  -- A carry or a loss of the consensus.
  keep_consensus : SameCards c.net c'.net → ProposalsStay c c' → DecisionsStand c c' → c'.net.work < c.net.work → Counted o o'
      → Consistent B C book batch b c' o'
  keep_consensus S ps d w t =
      keep b b c c' o o' I refl (same_same b.net b.net c.net c'.net (net_refl b.net) S I.net) I.in_book (λ _ _ h. h)
      d ps t.log t.instance (omega (arith, w, t.steps))

module _ {B C book : ℕ} {batch : ℕ → List ℕ} (b b' : BroadcastView) (c c' : ConsensusView) (o : Ledger) (I : Consistent B C book batch b c o) where
  -- A crash or a suspicion, which both parts are told.
  keep_told : b'.net.cards ≡ b.net.cards → SameCards b'.net c'.net → PostersStay b b' → HandedGrows b b'
      → DecisionsStand c c' → ProposalsStay c c' → b'.net.work ≤ b.net.work → c'.net.work ≤ c.net.work → Consistent B C book batch b' c' o
  keep_told cs S ps h d qs u w =
      keep b b' c c' o o I cs S (posted_in_book b b' c c' o o I ps) h d qs (λ _. refl) (λ _. refl)
      (omega (arith, u, w, mul-le-mul_right B (posts_stay b b' ps)))

module _ {B C book : ℕ} {batch : ℕ → List ℕ} (b : BroadcastView) (c c' : ConsensusView) (o o' : Ledger) (I : Consistent B C book batch b c o) where
  keep_propose : (p s : ℕ) → Waiting b o p s → propose_answer c (o.instance p) p s ≡ Ok tt → consensus.Proposed C c c' (o.instance p) p s → Counted o o'
      → Consistent B C book batch b c' o'
  keep_propose p s W ok P t = record {
    net = same_same b.net b.net c.net c'.net (net_refl b.net) P.same_cards I.net;
    in_book = I.in_book;
    outside = λ q h. t.instance q ∙ I.outside q h;
    made = λ q. log_kept b b c c' o o' I stand q (t.log q) (t.instance q);
    sound = λ k q x e. new k q x e (cases_eq k (o.instance p)) (cases_eq q p);
    paid = omega (arith, I.paid, t.steps, P.work_rises_by_bound, bump);
  }
    where
      stand : DecisionsStand c c'
      stand = P.decided_more.decisions_stand

      first : c.proposal (o.instance p) p ≡ None
      first = none_held (c.proposal (o.instance p) p) (propose_accepted c (o.instance p) p s ok).2

      put : c'.proposal (o.instance p) p ≡ Some s
      put = P.proposal_stands (o.instance p) p ∙ cond-true _ (Some s) _ (and_from _ _ (eq-eqb (o.instance p) (o.instance p) refl) (eq-eqb p p refl))

      off : (j q : ℕ) → (j ≡ o.instance p) ⊎ (j ≡ o.instance p → ⊥) → (q ≡ p) ⊎ (q ≡ p → ⊥) → (j ≡ o.instance p → q ≡ p → ⊥)
          → (eqb j (o.instance p) && eqb q p) ≡ false
      off j q (inl e) (inl f) n = absurd (n e f)
      off j q (inl e) (inr f) n = and_right (eqb j (o.instance p)) (eqb q p) (ne_eqb q p f)
      off j q (inr e) f n = and_left (eqb j (o.instance p)) (eqb q p) (ne_eqb j (o.instance p) e)

      others : (j q : ℕ) → (j ≡ o.instance p → q ≡ p → ⊥) → c'.proposal j q ≡ c.proposal j q
      others j q n = P.proposal_stands j q ∙ cond-false _ (Some s) (c.proposal j q) (off j q (cases_eq j (o.instance p)) (cases_eq q p) n)

      old : (k q x : ℕ) → c'.proposal k q ≡ Some x → (k ≡ o.instance p → q ≡ p → ⊥) → SoundProposal batch b c'.decision k q x
      old k q x e ne = proposal_stays b b c c' (λ _ _ h. h) stand (I.sound k q x (sym (others k q ne) ∙ e))

      here : SoundProposal batch b c'.decision (o.instance p) p s
      here = record {
        log = o.log p;
        made = log_stays c c' stand (I.made p);
        fresh = W.fresh;
        handed = W.handed;
        some = W.some;
      }

      new : (k q x : ℕ) → c'.proposal k q ≡ Some x → (k ≡ o.instance p) ⊎ (k ≡ o.instance p → ⊥) → (q ≡ p) ⊎ (q ≡ p → ⊥)
          → SoundProposal batch b c'.decision k q x
      new k q x e (inl ek) (inl eq) =
          let same : s ≡ x = same_Some s x (sym put ∙ ap (λ i. c'.proposal i p) (sym ek) ∙ ap (λ i. c'.proposal k i) (sym eq) ∙ e) in
          subst (λ i. SoundProposal batch b c'.decision i q x) (sym ek)
          (subst (λ i. SoundProposal batch b c'.decision (o.instance p) i x) (sym eq)
          (subst (λ i. SoundProposal batch b c'.decision (o.instance p) p i) same here))
      new k q x e (inl ek) (inr nq) = old k q x e (λ _ h. nq h)
      new k q x e (inr nk) f = old k q x e (λ h _. nk h)

      at : (q : ℕ) → spent C c' o'.instance q ≡ o.instance q * (C + 2) + one_if (c'.proposal (o.instance q) q) * (C + 1)
      at q = ap (λ i. i * (C + 2) + one_if (c'.proposal i q) * (C + 1)) (t.instance q)

      other : (q : ℕ) → (q ≡ p → ⊥) → spent C c o.instance q ≡ spent C c' o'.instance q
      other q ne = sym (at q ∙ ap (λ x. o.instance q * (C + 2) + one_if x * (C + 1)) (others (o.instance q) q (λ _ h. ne h)))

      bump : total (spent C c o.instance) b.net.cards + (C + 1) ≤ total (spent C c' o'.instance) b.net.cards
      bump =
          let was = ap (λ x. o.instance p * (C + 2) + one_if x * (C + 1)) first in
          let is = at p ∙ ap (λ x. o.instance p * (C + 2) + one_if x * (C + 1)) put in
          omega (
            arith,
            total_trade (spent C c o.instance) (spent C c' o'.instance) b.net.cards p (C + 1) 0
                (omega (arith, (propose_accepted c (o.instance p) p s ok).0, I.net.cards))
                (λ q _ ne. omega (arith, other q ne))
                (omega (arith, was, is)),
          )

module _ {B C book : ℕ} {batch : ℕ → List ℕ} (b : BroadcastView) (c : ConsensusView) (o o' : Ledger) (I : Consistent B C book batch b c o) where
  keep_take : consensus.Lawful c → (p s : ℕ) → Runs b.net p → c.decision (o.instance p) p ≡ Some s → Taken batch o o' p s → Consistent B C book batch b c o'
  keep_take LC p s r e t = record {
    net = I.net;
    in_book = I.in_book;
    outside = λ q h. t.instances q (λ x. omega (arith, r.card)) ∙ I.outside q h;
    made = λ q. by q (cases_eq q p);
    sound = I.sound;
    paid = omega (arith, I.paid, t.steps, bump);
  }
    where
      by : (q : ℕ) → (q ≡ p) ⊎ (q ≡ p → ⊥) → LogAfter batch c.decision q (o'.instance q) (o'.log q)
      by q (inl f) = subst (λ i. LogAfter batch c.decision i (o'.instance i) (o'.log i)) (sym f)
          (subst (λ k. LogAfter batch c.decision p k (o'.log p)) (sym t.instance)
          (subst (λ y. LogAfter batch c.decision p (suc (o.instance p)) y) (sym t.log) (one_more s (I.made p) e)))
      by q (inr ne) = log_kept b b c c o o' I (λ _ _ _ h. h) q (t.logs q ne) (t.instances q ne)

      other : (q : ℕ) → (q ≡ p → ⊥) → spent C c o.instance q ≡ spent C c o'.instance q
      other q ne = sym (ap (λ i. i * (C + 2) + one_if (c.proposal i q) * (C + 1)) (t.instances q ne))

      bump : total (spent C c o.instance) b.net.cards + 1 ≤ total (spent C c o'.instance) b.net.cards
      bump =
          let w = some_held (c.proposal (o.instance p) p) (LC.decided_have_proposed (o.instance p) p (ap is_some e)) in
          let was = ap (λ x. o.instance p * (C + 2) + one_if x * (C + 1)) w.1 in
          let is = ap (λ i. i * (C + 2) + one_if (c.proposal i p) * (C + 1)) t.instance in
          omega (
            arith,
            total_trade (spent C c o.instance) (spent C c o'.instance) b.net.cards p 1 0 r.card
                (λ q _ ne. omega (arith, other q ne))
                (omega (arith, was, is, suc-mul (o.instance p) (C + 2))),
          )

pub step_keeps : {B C book : ℕ} {batch : ℕ → List ℕ} {b b' : BroadcastView} {c c' : ConsensusView} {o o' : Ledger}
    → consensus.Lawful c → Consistent B C book batch b c o → Step B C book batch b c o b' c' o' → Consistent B C book batch b' c' o'
step_keeps {B} {book = book} {b = b} {c = c} {o = o} L I (post {b'} p m l ok P) =
    keep_broadcast b b' c o o I P.same_cards (λ j h. by j h (cases_eq j m)) P.handed_more.nothing_taken_out (λ _. refl) (λ _. refl)
    (omega (arith, P.work_rises_by_bound, mul-le-mul_right B (posts_more B b b' p m ok P), add-mul (posts b) 1 B))
  where
    by : (j : ℕ) → IsPosted b' j → (j ≡ m) ⊎ (j ≡ m → ⊥) → j < book
    by j h (inl e) = omega arith
    by j h (inr ne) = I.in_book j (h.0, sym (P.post_stands j ∙ cond-false (eqb j m) (Some p) (b.poster j) (ne_eqb j m ne)) ∙ h.1)
step_keeps {b = b} {c = c} {o = o} L I (carry_broadcast {b'} {o'} P t) =
    keep_move b b' c o o' I P.net.same_cards P.posters_stay P.handed_more.nothing_taken_out P.net.work_falls t
step_keeps {b = b} {c = c} {o = o} L I (carry_consensus {c'} {o'} P t) =
    keep_consensus b c c' o o' I P.net.same_cards P.proposals_stay P.decided_more.decisions_stand P.net.work_falls t
step_keeps {b = b} {c = c} {o = o} L I (lose_broadcast {b'} {o'} i P t) =
    keep_move b b' c o o' I P.net.same_cards P.posters_stay (sets_grow b b' P.sets_stay) P.net.work_falls t
step_keeps {b = b} {c = c} {o = o} L I (lose_consensus {c'} {o'} i P t) =
    keep_consensus b c c' o o' I P.net.same_cards P.proposals_stay (decisions_kept c c' P.decisions_stay) P.net.work_falls t
step_keeps {b = b} {c = c} {o = o} L I (crash {b'} {c'} p P Q) =
    keep_told b b' c c' o I P.net.cards (same_crash b.net b'.net c.net c'.net p P.net Q.net I.net) P.posters_stay
    (sets_grow b b' P.sets_stay) (decisions_kept c c' Q.decisions_stay) Q.proposals_stay P.net.work_stays_below Q.net.work_stays_below
step_keeps {b = b} {c = c} {o = o} L I (suspect {b'} {c'} q p P Q) =
    keep_told b b' c c' o I P.net.cards (same_suspicion b.net b'.net c.net c'.net q p P.net Q.net I.net) P.posters_stay
    P.handed_more.nothing_taken_out Q.decided_more.decisions_stand Q.proposals_stay P.net.work_stays_below Q.net.work_stays_below
step_keeps {b = b} {c = c} {o = o} L I (propose {c'} {o'} p s W ok P t) = keep_propose b c c' o o' I p s W ok P t
step_keeps {b = b} {c = c} {o = o} L I (take {o'} p s r e t) = keep_take b c o o' I L p s r e t

pub new_consistent : {B C book : ℕ} {batch : ℕ → List ℕ} (n : ℕ) (b : BroadcastView) (c : ConsensusView) (o : Ledger) → New n b c o → Consistent B C book batch b c o
new_consistent {batch = batch} n b c o N =
    let v = N.broadcast.net in
    let w = N.consensus.net in
    record {
      net = record {
        cards = w.cards ∙ sym v.cards;
        crashed = λ p. w.no_crash p ∙ sym (v.no_crash p);
        suspects = λ q p. w.no_suspicion q p ∙ sym (v.no_suspicion q p);
      };
      in_book = λ m h. absurd (none-some h.0 (sym (N.broadcast.nothing_posted m) ∙ h.1));
      outside = λ p _. N.instance p;
      made = λ p. subst (λ k. LogAfter batch c.decision p k (o.log p)) (sym (N.instance p))
          (subst (λ l. LogAfter batch c.decision p 0 l) (sym (N.log p)) at_first);
      sound = λ k q s e. absurd (none-some s (sym (N.consensus.nothing_proposed k q) ∙ e));
      paid = omega (arith, N.steps, v.no_work, w.no_work);
    }

run_keeps : {B C book : ℕ} {batch : ℕ → List ℕ} {b : BroadcastView} {c : ConsensusView} {o : Ledger} {b' : BroadcastView} {c' : ConsensusView} {o' : Ledger}
    → Consistent B C book batch b c o → Run B C book batch b c o b' c' o' → Consistent B C book batch b' c' o'
run_keeps I none = I
run_keeps I (then r _ L s) = step_keeps L (run_keeps I r) s

pub order_law : OrderLaw
order_law B C book n batch b b' c c' o o' R N run LB LC = one_order R LB LC (run_keeps (new_consistent n b c o N) run)

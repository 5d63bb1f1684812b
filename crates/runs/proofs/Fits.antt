-- A carrier that every run keeps good, and what the accepted calls tell of it.
use Rattle.std.proofs.Common.{◌≡◌, ℕ, zero, suc, ◌+◌, ◌*◌, ◌<◌, ◌≤◌, Bool, true, false, cond, not, ◌&&◌, ◌||◌, eqb, ltb, List, [], ◌∷◌, length, set, is_some, Some, None, Option, sym, refl, ap, ◌∙◌, subst, mul-le-mul_right, arith, Ok, Err, Result, is_ok}
use borrow.Author.Tests.{clash}
use Rattle.std.proofs.lemmas.Bool.{eq-eqb, ne_eqb, ltb-true, ltb-false, and_from, both_ways, cond-true, cond-false}
use Rattle.parts.specs.declared.refusal.Refusal.{Refusal}
use Rattle.parts.specs.declared.refusal.Refusal.TheVariants.{NoSuchCard, CardCrashed, NoSuchNote, NoSuchItem}
use Rattle.parts.proofs.Accepted.{is_accepted, post_accepted}
use Rattle.parts.specs.Views.{BroadcastView}
use Rattle.parts.specs.Refusals.{post_answer, carry_answer, lose_answer, crash_answer, suspect_answer, acting_answer}
use Rattle.parts.specs.Shown.{shown, told}
use Rattle.parts.specs.declared.broadcast.Broadcast.{Ghosts as Broadcasts}
use Rattle.parts.specs.declared.consensus.Consensus.{Ghosts as Consensuses}
use Rattle.logs.specs.Orders.{number_in, appended}
use Rattle.logs.proofs.Lowest.{lowest_some}
use Rattle.total_order.proofs.Lowest.{found_lowest}
use Rattle.order.specs.Words.{one_if, step_bound}
use Rattle.order.specs.Views.{posts}
use Rattle.notes.proofs.Counting.{total_le, total_trade}
use Rattle.order.proofs.Facts.{one_most}
use Rattle.order.proofs.Facts.{within_bound}
use Rattle.total_order.specs.Carrying.{Carrying, one_more, moved, counted, card_count, log_at, instance_at, decision_at, waiting, post_reply, posting, carrying, losing, crashing, suspecting, propose_reply, proposing, take_reply, taking, can_take, can_propose, taker, proposer, at_rest, take_or_propose, advanced, settled, settle_steps}
use Rattle.total_order.specs.Calls.{told_by, calling}
use Rattle.total_order.specs.declared.call.Call.{Call}
use Rattle.total_order.specs.declared.call.Call.TheVariants.{Post, Carry, Lose, Crash, Suspect, Propose, Take, Settle}
use Rattle.parts.specs.declared.wires.Wire.{Wire}
use Rattle.parts.specs.declared.wires.Wire.TheVariants.{Broadcast, Consensus}
use Rattle.runs.specs.Runs.{left_by, answers_to}
use Rattle.runs.specs.Tally.{Tally, with_steps, with_post, with_crash, with_suspicion, with_call, with_answer, with_calls}
use Rattle.runs.proofs.Good.{Means, Good, LB, LC, R, step_counted, good_post, good_carry_broadcast, good_carry_consensus, good_lose_broadcast, good_lose_consensus, good_crash, good_suspect, good_propose, good_take, crash_both, suspect_both}

posts_same : (v w : BroadcastView) → ((m : ℕ) → w.poster m ≡ v.poster m) → posts w ≤ posts v
unfolding posts
posts_same v w e = total_le (λ m. one_if (w.poster m)) (λ m. one_if (v.poster m)) 32 (λ m l. omega (arith, ap one_if (e m)))

posts_one : (v w : BroadcastView) (p m : ℕ) → m < 32 → ((j : ℕ) → w.poster j ≡ cond (eqb j m) (Some p) (v.poster j)) → posts w ≤ posts v + 1
unfolding posts
posts_one v w p m l e =
    omega (
      arith,
      total_trade (λ m. one_if (w.poster m)) (λ m. one_if (v.poster m)) 32 m 0 1 l
          (λ i _ ne. omega (arith, ap one_if (e i ∙ cond-false (eqb i m) (Some p) (v.poster i) (ne_eqb i m ne)))) (omega (arith, one_most (w.poster m))),
    )

pub record Fits {X Y : Type 0} (b : Broadcasts X) (c : Consensuses Y) (n : ℕ) (t : Tally) (s : Carrying b c) : Type 0 where
  pub good : Good b c s
  pub cards : b.cards s.broadcast ≡ n
  pub poster : (m : ℕ) → b.poster s.broadcast m ≡ t.poster m
  pub crashed : (p : ℕ) → b.crashed s.broadcast p ≡ t.crashed p
  pub suspects : (q p : ℕ) → b.suspects s.broadcast q p ≡ t.suspects q p
  pub posts : posts (shown b s.broadcast) ≤ t.posts
  pub steps : s.steps ≡ t.steps

module _ {X Y : Type 0} (b : Broadcasts X) (c : Consensuses Y) (M : Means b c) (n : ℕ) where
  -- What a call answers and leaves is what the tally says of it.
  abbrev Tells : Tally → Tally → Result Unit Refusal → Carrying b c → Type 0
  Tells t t' answer next = Fits b c n (cond (is_ok answer) t' t) next

  module _ (t : Tally) (s : Carrying b c) (F : Fits b c n t s) where
    G : Good b c s
    G = F.good

    -- A call that changes broadcast, consensus and count where it is accepted.
    by_answer : (k : Result Unit Refusal) (t' : Tally) (x : b.State) (y : c.State) (m : ℕ) → (k ≡ Ok tt → Fits b c n t' (moved b c s x y m))
        → Fits b c n (cond (is_ok k) t' t) (moved b c s (cond (is_ok k) x s.broadcast) (cond (is_ok k) y s.consensus) (cond (is_ok k) m s.steps))
    by_answer k t' x y m h = go (is_ok k) refl
      where
        go : (e : Bool) → is_ok k ≡ e → Fits b c n (cond e t' t) (moved b c s (cond e x s.broadcast) (cond e y s.consensus) (cond e m s.steps))
        go true e = h (is_accepted k e)
        go false e = F

    same_cond : {A : Type 0} (e : Bool) (x : A) → x ≡ cond e x x
    same_cond true x = refl
    same_cond false x = refl

    -- A step at which the broadcast tells the same.
    told_same : (s' : Carrying b c) → Good b c s' → b.cards s'.broadcast ≡ b.cards s.broadcast → ((m : ℕ) → b.poster s'.broadcast m ≡ b.poster s.broadcast m)
        → ((p : ℕ) → b.crashed s'.broadcast p ≡ b.crashed s.broadcast p) → ((q p : ℕ) → b.suspects s'.broadcast q p ≡ b.suspects s.broadcast q p)
        → s'.steps ≡ one_more s.steps → Fits b c n (with_steps 1 t) s'
    told_same s' G' cs ps ds ss e = record {
      good = G';
      cards = cs ∙ F.cards;
      poster = λ m. ps m ∙ F.poster m;
      crashed = λ p. ds p ∙ F.crashed p;
      suspects = λ q p. ss q p ∙ F.suspects q p;
      posts = omega (arith, F.posts, posts_same (shown b s.broadcast) (shown b s'.broadcast) ps);
      steps = e ∙ step_counted b c M s G ∙ ap (λ x. x + 1) F.steps;
    }

    fits_carry : (w : Wire) (i : ℕ) → Tells t (with_steps 1 t) (carrying b c s w i).answer (carrying b c s w i).next
    fits_carry Broadcast i =
        let k = carry_answer (shown b s.broadcast).net i in
        subst (λ y. Tells t (with_steps 1 t) k (moved b c s (cond (is_ok k) (b.carrying s.broadcast i) s.broadcast) y (counted b c s k))) (sym (same_cond (is_ok k) s.consensus))
        (by_answer k (with_steps 1 t) (b.carrying s.broadcast i) s.consensus (one_more s.steps) (λ e.
        let P = M.broadcast.carry_means s.broadcast i G.broadcast_made e in
        told_same _ (good_carry_broadcast b c M s G i e) P.net.same_cards.cards P.posters_stay P.net.same_cards.crashed P.net.same_cards.suspects refl))
    fits_carry Consensus i =
        let k = carry_answer (told c s.consensus).net i in
        subst (λ x. Tells t (with_steps 1 t) k (moved b c s x (cond (is_ok k) (c.carrying s.consensus i) s.consensus) (counted b c s k))) (sym (same_cond (is_ok k) s.broadcast))
        (by_answer k (with_steps 1 t) s.broadcast (c.carrying s.consensus i) (one_more s.steps) (λ e.
        told_same _ (good_carry_consensus b c M s G i e) refl (λ _. refl) (λ _. refl) (λ _ _. refl) refl))

    fits_lose : (w : Wire) (i : ℕ) → Tells t (with_steps 1 t) (losing b c s w i).answer (losing b c s w i).next
    fits_lose Broadcast i =
        let k = lose_answer (shown b s.broadcast).net i in
        subst (λ y. Tells t (with_steps 1 t) k (moved b c s (cond (is_ok k) (b.losing s.broadcast i) s.broadcast) y (counted b c s k))) (sym (same_cond (is_ok k) s.consensus))
        (by_answer k (with_steps 1 t) (b.losing s.broadcast i) s.consensus (one_more s.steps) (λ e.
        let P = M.broadcast.lose_means s.broadcast i G.broadcast_made e in
        told_same _ (good_lose_broadcast b c M s G i e) P.net.same_cards.cards P.posters_stay P.net.same_cards.crashed P.net.same_cards.suspects refl))
    fits_lose Consensus i =
        let k = lose_answer (told c s.consensus).net i in
        subst (λ x. Tells t (with_steps 1 t) k (moved b c s x (cond (is_ok k) (c.losing s.consensus i) s.consensus) (counted b c s k))) (sym (same_cond (is_ok k) s.broadcast))
        (by_answer k (with_steps 1 t) s.broadcast (c.losing s.consensus i) (one_more s.steps) (λ e.
        told_same _ (good_lose_consensus b c M s G i e) refl (λ _. refl) (λ _. refl) (λ _ _. refl) refl))

    fits_propose : (p : ℕ) → Tells t (with_steps 1 t) (proposing b c s p).answer (proposing b c s p).next
    fits_propose p =
        let k = propose_reply b c s p in
        let y = c.proposing s.consensus (instance_at b c s p) p (waiting b c s p) in
        subst (λ x. Tells t (with_steps 1 t) k (moved b c s x (cond (is_ok k) y s.consensus) (counted b c s k))) (sym (same_cond (is_ok k) s.broadcast))
        (by_answer k (with_steps 1 t) s.broadcast y (one_more s.steps) (λ e. told_same _ (good_propose b c M s G p e) refl (λ _. refl) (λ _. refl) (λ _ _. refl) refl))

    fits_take : (p : ℕ) → Tells t (with_steps 1 t) (taking b c s p).answer (taking b c s p).next
    fits_take p = go (is_ok (take_reply b c s p)) refl
      where
        go : (e : Bool) → is_ok (take_reply b c s p) ≡ e → Fits b c n (cond e (with_steps 1 t) t) (record {
          broadcast = s.broadcast;
          consensus = s.consensus;
          order = s.order;
          logs = cond e (set s.logs p (appended s.order (log_at b c s p) (number_in (decision_at b c s p)))) s.logs;
          instances = cond e (set s.instances p (one_more (instance_at b c s p))) s.instances;
          steps = cond e (one_more s.steps) s.steps;
        })
        go true e = told_same _ (good_take b c M s G p (is_accepted (take_reply b c s p) e)) refl (λ _. refl) (λ _. refl) (λ _ _. refl) refl
        go false e = F

    post_both : (p m : ℕ) → post_reply b c s p m ≡ Ok tt → (m < length s.order) × (post_answer (shown b s.broadcast) p m ≡ Ok tt)
    post_both p m e = go (ltb m (length s.order)) refl e
      where
        never : (x y : Bool) → ◌≡◌ {A = Result Unit Refusal} (cond x (cond y (Err CardCrashed) (Err NoSuchNote)) (Err NoSuchCard)) (Ok tt) → ⊥
        never true true h = clash (ap is_ok h)
        never true false h = clash (ap is_ok h)
        never false y h = clash (ap is_ok h)

        go : (x : Bool) → ltb m (length s.order) ≡ x → cond x (post_answer (shown b s.broadcast) p m) (acting_answer (shown b s.broadcast).net p (Err NoSuchNote)) ≡ Ok tt
            → (m < length s.order) × (post_answer (shown b s.broadcast) p m ≡ Ok tt)
        go true h z = (ltb-true m (length s.order) h, z)
        go false h z = absurd (never (ltb p (b.cards s.broadcast)) (b.crashed s.broadcast p) z)

    fits_post : (p m : ℕ) → Tells t (with_post p m t) (posting b c s p m).answer (posting b c s p m).next
    fits_post p m =
        let k = post_reply b c s p m in
        let x = b.posting s.broadcast p m in
        subst (λ y. Tells t (with_post p m t) k (moved b c s (cond (is_ok k) x s.broadcast) y s.steps)) (sym (same_cond (is_ok k) s.consensus))
        (subst (λ z. Tells t (with_post p m t) k (moved b c s (cond (is_ok k) x s.broadcast) (cond (is_ok k) s.consensus s.consensus) z)) (sym (same_cond (is_ok k) s.steps))
        (by_answer k (with_post p m t) x s.consensus s.steps (λ e.
        let f = post_both p m e in
        let P = M.broadcast.post_means s.broadcast p m G.broadcast_made f.1 in
        record {
          good = good_post b c M s G p m f.0 f.1;
          cards = P.same_cards.cards ∙ F.cards;
          poster = λ j. P.post_stands j ∙ ap (λ o. cond (eqb j m) (Some p) o) (F.poster j);
          crashed = λ q. P.same_cards.crashed q ∙ F.crashed q;
          suspects = λ x y. P.same_cards.suspects x y ∙ F.suspects x y;
          posts = omega (arith, F.posts, posts_one (shown b s.broadcast) (shown b (b.posting s.broadcast p m)) p m (post_accepted (shown b s.broadcast) p m f.1).2 P.post_stands);
          steps = F.steps;
        })))

    fits_crash : (p : ℕ) → Tells t (with_crash p t) (crashing b c s p).answer (crashing b c s p).next
    fits_crash p =
        let k = crash_answer (shown b s.broadcast).net p in
        let x = b.crashing s.broadcast p in
        let y = cond (is_ok (crash_answer (told c s.consensus).net p)) (c.crashing s.consensus p) s.consensus in
        subst (λ z. Tells t (with_crash p t) k (moved b c s (cond (is_ok k) x s.broadcast) (cond (is_ok k) y s.consensus) z)) (sym (same_cond (is_ok k) s.steps))
        (by_answer k (with_crash p t) x y s.steps (λ e.
        let P = M.broadcast.crash_means s.broadcast p G.broadcast_made e in
        let E = cond-true _ (c.crashing s.consensus p) s.consensus (ap is_ok (crash_both b c M s G p e)) in
        subst (λ y. Fits b c n (with_crash p t) (moved b c s x y s.steps)) (sym E) (record {
          good = good_crash b c M s G p e;
          cards = P.net.cards ∙ F.cards;
          poster = λ j. P.posters_stay j ∙ F.poster j;
          crashed = λ q. P.net.crash_stands q ∙ ap (λ x. eqb q p || x) (F.crashed q);
          suspects = λ x y. P.net.suspects x y ∙ F.suspects x y;
          posts = omega (arith, F.posts, posts_same (shown b s.broadcast) (shown b (b.crashing s.broadcast p)) P.posters_stay);
          steps = F.steps;
        })))

    fits_suspect : (q p : ℕ) → Tells t (with_suspicion q p t) (suspecting b c s q p).answer (suspecting b c s q p).next
    fits_suspect q p =
        let k = suspect_answer (shown b s.broadcast).net q p in
        let x = b.suspecting s.broadcast q p in
        let y = cond (is_ok (suspect_answer (told c s.consensus).net q p)) (c.suspecting s.consensus q p) s.consensus in
        subst (λ z. Tells t (with_suspicion q p t) k (moved b c s (cond (is_ok k) x s.broadcast) (cond (is_ok k) y s.consensus) z)) (sym (same_cond (is_ok k) s.steps))
        (by_answer k (with_suspicion q p t) x y s.steps (λ e.
        let P = M.broadcast.suspect_means s.broadcast q p G.broadcast_made e in
        let E = cond-true _ (c.suspecting s.consensus q p) s.consensus (ap is_ok (suspect_both b c M s G q p e)) in
        subst (λ y. Fits b c n (with_suspicion q p t) (moved b c s x y s.steps)) (sym E) (record {
          good = good_suspect b c M s G q p e;
          cards = P.net.cards ∙ F.cards;
          poster = λ j. P.posters_stay j ∙ F.poster j;
          crashed = λ x. P.net.crashed x ∙ F.crashed x;
          suspects = λ x y. P.net.suspicion_stands x y ∙ ap (λ z. (eqb x q && eqb y p) || z) (F.suspects x y);
          posts = omega (arith, F.posts, posts_same (shown b s.broadcast) (shown b (b.suspecting s.broadcast q p)) P.posters_stay);
          steps = F.steps;
        })))

    pub steps_bounded : s.steps ≤ step_bound t.posts n b.bound c.bound
    steps_bounded = subst (λ x. s.steps ≤ step_bound t.posts x b.bound c.bound) F.cards
        (omega (arith, within_bound (R b c M s G) (LB b c M s G) (LC b c M s G) G.consistent, mul-le-mul_right (b.bound + b.cards s.broadcast * (c.bound + 2)) F.posts))

    accepted : (t' : Tally) (k : Result Unit Refusal) (s' : Carrying b c) → k ≡ Ok tt → Tells t t' k s' → Fits b c n t' s'
    accepted t' k s' e f = subst (λ u. Fits b c n u s') (cond-true (is_ok k) t' t (ap is_ok e)) f

    first_item : (l : List ℕ) → ltb 0 (length l) ≡ true → ◌≡◌ {A = Result Unit Refusal} (cond (ltb 0 (length l)) (Ok tt) (Err NoSuchItem)) (Ok tt)
    first_item l e = cond-true _ _ _ e

    no_item : (l : List ℕ) → ltb 0 (length l) ≡ false → eqb (length l) 0 ≡ true
    no_item l e = eq-eqb (length l) 0 (omega (arith, ltb-false 0 (length l) e))

    -- A carrier that is not at rest makes a step.
    pub fits_advance : at_rest b c s ≡ false → Fits b c n (with_steps 1 t) (advanced b c s)
    unfolding at_rest advanced taker proposer
    fits_advance e = one (ltb 0 (length (b.wire s.broadcast))) refl
      where
        four : (x : Option ℕ) → taker b c s ≡ x → (y : Option ℕ) → proposer b c s ≡ y → eqb (length (b.wire s.broadcast)) 0 ≡ true → eqb (length (c.wire s.consensus)) 0 ≡ true
            → Fits b c n (with_steps 1 t) (take_or_propose b c s x y)
        four (Some p) h y k i j =
            let z = is_accepted (take_reply b c s p) (lowest_some (can_take b c s) (card_count b c s) p (sym (found_lowest (can_take b c s) (card_count b c s)) ∙ h)).1 in
            accepted (with_steps 1 t) (take_reply b c s p) _ z (fits_take p)
        four None h (Some q) k i j =
            let z = is_accepted (propose_reply b c s q) (lowest_some (can_propose b c s) (card_count b c s) q (sym (found_lowest (can_propose b c s) (card_count b c s)) ∙ k)).1 in
            accepted (with_steps 1 t) (propose_reply b c s q) _ z (fits_propose q)
        four None h None k i j = absurd (both_ways (at_rest b c s) e (and_from _ _ (and_from _ _ i j) (and_from _ _ (ap (λ o. not (is_some o)) h) (ap (λ o. not (is_some o)) k))))

        two : (x : Bool) → ltb 0 (length (c.wire s.consensus)) ≡ x → eqb (length (b.wire s.broadcast)) 0 ≡ true
            → Fits b c n (with_steps 1 t) (cond x (carrying b c s Consensus 0).next (take_or_propose b c s (taker b c s) (proposer b c s)))
        two true h i = let z = first_item (c.wire s.consensus) h in accepted (with_steps 1 t) (carry_answer (told c s.consensus).net 0) _ z (fits_carry Consensus 0)
        two false h i = four (taker b c s) refl (proposer b c s) refl i (no_item (c.wire s.consensus) h)

        one : (x : Bool) → ltb 0 (length (b.wire s.broadcast)) ≡ x
            → Fits b c n (with_steps 1 t) (cond x (carrying b c s Broadcast 0).next (cond (ltb 0 (length (c.wire s.consensus))) (carrying b c s Consensus 0).next (take_or_propose b c s (taker b c s) (proposer b c s))))
        one true h = let z = first_item (b.wire s.broadcast) h in accepted (with_steps 1 t) (carry_answer (shown b s.broadcast).net 0) _ z (fits_carry Broadcast 0)
        one false h = two (ltb 0 (length (c.wire s.consensus))) refl (no_item (b.wire s.broadcast) h)

  steps_joined : (t : Tally) (s : Carrying b c) (k m : ℕ) → 1 + k ≡ m → Fits b c n (with_steps k (with_steps 1 t)) s → Fits b c n (with_steps m t) s
  steps_joined t s k m e F = record {
    good = F.good;
    cards = F.cards;
    poster = F.poster;
    crashed = F.crashed;
    suspects = F.suspects;
    posts = F.posts;
    steps = F.steps ∙ (let h : t.steps + 1 + k ≡ t.steps + m = omega arith in h);
  }

  fits_none : (t : Tally) (s : Carrying b c) (m : ℕ) → m ≡ 0 → Fits b c n t s → Fits b c n (with_steps m t) s
  fits_none t s m e F = record {
    good = F.good;
    cards = F.cards;
    poster = F.poster;
    crashed = F.crashed;
    suspects = F.suspects;
    posts = F.posts;
    steps = F.steps ∙ (let h : t.steps ≡ t.steps + m = omega arith in h);
  }

  fits_settle : (limit : ℕ) (t : Tally) (s : Carrying b c) → Fits b c n t s → Fits b c n (with_steps (settle_steps b c limit s) t) (settled b c limit s)
  unfolding settled settle_steps
  fits_settle zero t s F = fits_none t s 0 refl F
  fits_settle (suc limit) t s F = go (at_rest b c s) refl (fits_settle limit (with_steps 1 t) (advanced b c s))
    where
      go : (x : Bool) → at_rest b c s ≡ x → (Fits b c n (with_steps 1 t) (advanced b c s) → Fits b c n (with_steps (settle_steps b c limit (advanced b c s)) (with_steps 1 t)) (settled b c limit (advanced b c s)))
          → Fits b c n (with_steps (cond x 0 (suc (settle_steps b c limit (advanced b c s)))) t) (cond x s (settled b c limit (advanced b c s)))
      go true e r = fits_none t s 0 refl F
      go false e r = steps_joined t (settled b c limit (advanced b c s)) (settle_steps b c limit (advanced b c s)) (suc (settle_steps b c limit (advanced b c s))) (omega arith) (r (fits_advance t s F e))

  -- A settle with as many steps as the bound still allows comes to rest: otherwise it could make one more.
  pub large_settle : (limit : ℕ) (t : Tally) (s : Carrying b c) → Fits b c n t s → step_bound t.posts n b.bound c.bound ≤ s.steps + limit → at_rest b c (settled b c limit s) ≡ true
  unfolding settled
  large_settle zero t s F h = go (at_rest b c s) refl
    where
      go : (x : Bool) → at_rest b c s ≡ x → x ≡ true
      go true e = refl
      go false e =
          let A = fits_advance t s F e in
          let more = steps_bounded (with_steps 1 t) (advanced b c s) A in
          absurd (omega (arith, more, A.steps, F.steps, h))
  large_settle (suc limit) t s F h = go (at_rest b c s) refl (large_settle limit (with_steps 1 t) (advanced b c s))
    where
      go : (x : Bool) → at_rest b c s ≡ x
          → (Fits b c n (with_steps 1 t) (advanced b c s) → step_bound t.posts n b.bound c.bound ≤ (advanced b c s).steps + limit → at_rest b c (settled b c limit (advanced b c s)) ≡ true)
          → at_rest b c (cond x s (settled b c limit (advanced b c s))) ≡ true
      go true e r = e
      go false e r = let A = fits_advance t s F e in r A (omega (arith, A.steps, F.steps, h))

  -- A call other than settle tells whether it is accepted.
  by_telling : (k : Call) (a : Result Unit Refusal) (t : Tally) (s : Carrying b c) → Tells t (with_call k None t) a s → Fits b c n (with_answer k (told_by a) t) s
  by_telling k (Ok x) t s F = F
  by_telling k (Err e) t s F = F

  fits_call : (t : Tally) (s : Carrying b c) (k : Call) → Fits b c n t s → Fits b c n (with_answer k (calling b c s k).tells t) (calling b c s k).leaves
  unfolding calling
  fits_call t s (Post p m) F = by_telling (Post p m) _ t _ (fits_post t s F p m)
  fits_call t s (Carry w i) F = by_telling (Carry w i) _ t _ (fits_carry t s F w i)
  fits_call t s (Lose w i) F = by_telling (Lose w i) _ t _ (fits_lose t s F w i)
  fits_call t s (Crash p) F = by_telling (Crash p) _ t _ (fits_crash t s F p)
  fits_call t s (Suspect q p) F = by_telling (Suspect q p) _ t _ (fits_suspect t s F q p)
  fits_call t s (Propose p) F = by_telling (Propose p) _ t _ (fits_propose t s F p)
  fits_call t s (Take p) F = by_telling (Take p) _ t _ (fits_take t s F p)
  fits_call t s (Settle limit) F = fits_settle limit t s F

  pub fits_calls : (calls : List Call) (t : Tally) (s : Carrying b c) → Fits b c n t s → Fits b c n (with_calls t calls (answers_to b c s calls)) (left_by b c s calls)
  unfolding answers_to left_by
  fits_calls [] t s F = F
  fits_calls (k ∷ ks) t s F = fits_calls ks _ (calling b c s k).leaves (fits_call t s k F)

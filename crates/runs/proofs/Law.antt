-- The law over every list of calls.
use Rattle.std.proofs.Common.{◌≡◌, ℕ, ◌<◌, ◌≤◌, Bool, true, false, cond, not, ◌&&◌, eqb, ltb, List, length, is_some, Some, None, Option, sym, refl, ap, ◌∙◌, subst, arith, Ok, Err, is_ok}
use Rattle.std.proofs.lemmas.List.{nil_from_length}
use Rattle.std.proofs.lemmas.Bool.{eqb-true, lt-ltb, and_parts, and_from, both_ways, not_from_false, cond-true, cond-false}
use Rattle.std.proofs.lemmas.Bool.Decides.{nat_tests}
use Rattle.notes.specs.Sets.{has}
use Rattle.notes.proofs.Bits.{has_none}
use Rattle.notes.proofs.Counting.{total_none}
use Rattle.parts.specs.declared.refusal.Refusal.TheVariants.{NoSuchCard, CardCrashed, AlreadyProposed, NothingToPropose, NothingDecided}
use Rattle.parts.specs.Views.{BroadcastView, Runs, FullSuspicion}
use Rattle.parts.specs.Shown.{shown, told}
use Rattle.parts.proofs.Options.{some_held, none_held}
use Rattle.parts.specs.declared.broadcast.Broadcast.{Ghosts as Broadcasts}
use Rattle.parts.specs.declared.consensus.Consensus.{Ghosts as Consensuses}
use Rattle.logs.proofs.Lowest.{lowest_none}
use Rattle.total_order.proofs.Lowest.{found_lowest}
use Rattle.order.specs.Words.{In, among, one_if}
use Rattle.order.specs.Views.{posts, Rest}
use Rattle.order.specs.Law as order
use Rattle.order.proofs.Facts.{one_order}
use Rattle.total_order.specs.Carrying.{Carrying, fresh, cards_of, card_count, log_at, instance_at, decision_at, waiting, can_take, can_propose, taker, proposer, at_rest}
use Rattle.total_order.specs.declared.call.Call.{Call}
use Rattle.total_order.specs.Calls.{Answer}
use Rattle.runs.specs.declared.Script.{Script}
use Rattle.runs.specs.Scripts.{cards_in, begun}
use Rattle.runs.specs.Runs.{left_by, answers_to}
use Rattle.runs.specs.Tally.{Tally, nothing, tally}
use Rattle.runs.specs.Law.{Running, AllCrashesSuspected, OneOrder, PartsMade, StaysInOrder, OneOrderOfEveryRun, CrashedLogsOfEveryRun}
use Rattle.runs.proofs.Batches.{Listed}
use Rattle.runs.proofs.Good.{Means, ledger, Good, good_new, LB, LC, R, few_steps, few_instances, count_is, waiting_is, instance_for_waiting, room_for_decision}
use Rattle.runs.proofs.Fits.{Fits, fits_calls, steps_bounded, large_settle}

module _ {X Y : Type 0} (b : Broadcasts X) (c : Consensuses Y) (M : Means b c) (n : ℕ) (t : Tally) (s : Carrying b c) (F : Fits b c n t s) where
  G : Good b c s
  G = F.good

  none_of : (o : Option ℕ) → not (is_some o) ≡ true → o ≡ None
  none_of None e = refl
  none_of (Some x) e = absurd (both_ways false refl e)

  rests : at_rest b c s ≡ true → Rest (shown b s.broadcast) (told c s.consensus) (ledger b c s)
  unfolding at_rest taker proposer
  rests e = record {
    broadcast_empty = nil_from_length _ (eqb-true _ 0 wires.0);
    consensus_empty = nil_from_length _ (eqb-true _ 0 wires.1);
    no_take = λ p r. none_held _ (no_take p r (is_some (decision_at b c s p)) refl);
    no_proposal = λ p m r h out. some_held (c.proposal s.consensus (instance_at b c s p) p) (proposal p m r h out (is_some (c.proposal s.consensus (instance_at b c s p) p)) refl);
  }
    where
      parts : ((eqb (length (b.wire s.broadcast)) 0 && eqb (length (c.wire s.consensus)) 0) ≡ true) × ((not (is_some (taker b c s)) && not (is_some (proposer b c s))) ≡ true)
      parts = and_parts _ _ e

      wires : (eqb (length (b.wire s.broadcast)) 0 ≡ true) × (eqb (length (c.wire s.consensus)) 0 ≡ true)
      wires = and_parts _ _ parts.0

      calls : (not (is_some (taker b c s)) ≡ true) × (not (is_some (proposer b c s)) ≡ true)
      calls = and_parts _ _ parts.1

      card : (p : ℕ) → Runs (shown b s.broadcast).net p → p < card_count b c s
      card p r = omega (arith, r.card, count_is b c M s G)

      no_take : (p : ℕ) → Runs (shown b s.broadcast).net p → (x : Bool) → is_some (decision_at b c s p) ≡ x → is_some (decision_at b c s p) ≡ false
      no_take p r false h = h
      no_take p r true h = absurd (both_ways (can_take b c s p) (lowest_none (can_take b c s) (card_count b c s) (sym (found_lowest (can_take b c s) (card_count b c s)) ∙ none_of (taker b c s) calls.0) p (card p r))
          (ap is_ok (cond-true _ _ (Err NoSuchCard) (lt-ltb p (card_count b c s) (card p r)) ∙ cond-false _ (Err CardCrashed) _ r.up ∙ cond-true _ (Ok tt) (Err NothingDecided) h)))

      proposal : (p m : ℕ) → Runs (shown b s.broadcast).net p → In (b.handed s.broadcast p) m → among m (log_at b c s p) ≡ false
          → (x : Bool) → is_some (c.proposal s.consensus (instance_at b c s p) p) ≡ x → is_some (c.proposal s.consensus (instance_at b c s p) p) ≡ true
      proposal p m r h out true i = i
      proposal p m r h out false i =
          let has-m = waiting_is b c M s G p m ∙ and_from _ _ h (not_from_false _ out) in
          let some : (waiting b c s p ≡ 0) → ⊥ = λ z. both_ways (has (waiting b c s p) m) (ap (λ x. has x m) z ∙ has_none m) has-m in
          let early = instance_for_waiting b c M s G p m has-m in
          let net = G.consistent.net in
          let there : p < c.cards s.consensus = omega (arith, r.card, net.cards) in
          absurd (both_ways (can_propose b c s p) (lowest_none (can_propose b c s) (card_count b c s) (sym (found_lowest (can_propose b c s) (card_count b c s)) ∙ none_of (proposer b c s) calls.1) p (card p r))
          (ap is_ok (cond-true _ _ (Err NoSuchCard) (lt-ltb p (card_count b c s) (card p r)) ∙ cond-true _ _ (Err NoSuchCard) (lt-ltb p (c.cards s.consensus) there) ∙ cond-false _ (Err CardCrashed) _ (net.crashed p ∙ r.up) ∙ cond-false _ (Err AlreadyProposed) _ i
          ∙ cond-true _ (Ok tt) (Err NothingToPropose) (and_from _ _ (lt-ltb (instance_at b c s p) 32 early) (lt-ltb 0 (waiting b c s p) (omega (arith, some)))))))

  runs : (p : ℕ) → Running n t p → Runs (shown b s.broadcast).net p
  runs p u = record { card = omega (arith, u.card, F.cards); up = F.crashed p ∙ u.up }

  suspected : AllCrashesSuspected n t → FullSuspicion (shown b s.broadcast).net
  suspected k q p r l e = F.suspects q p ∙ k q p (record { card = omega (arith, r.card, F.cards); up = sym (F.crashed q) ∙ r.up }) (omega (arith, l, F.cards)) (sym (F.crashed p) ∙ e)

  O : order.OneOrder b.bound c.bound (shown b s.broadcast) (told c s.consensus) (ledger b c s)
  O = one_order (R b c M s G) (LB b c M s G) (LC b c M s G) G.consistent

  pub ordered : OneOrder b c n t s
  ordered = record {
    one_log_begins_the_other = O.one_log_begins_the_other;
    no_note_twice = O.no_note_twice;
    only_posted_notes = λ p m h. ((O.only_posted_notes p m h).0, sym (F.poster m) ∙ (O.only_posted_notes p m h).1);
    no_log_outside = λ p l. O.no_log_outside p (omega (arith, l, F.cards));
    running_logs_agree_at_rest = λ e k p q u v. O.running_logs_agree_at_rest (rests e) (suspected k) p q (runs p u) (runs q v);
    running_posts_logged_at_rest = λ e k p q m u v h. O.running_posts_logged_at_rest (rests e) (suspected k) p q m (runs p u) (runs q v) (F.poster m ∙ h);
    steps_within_bound = steps_bounded b c M n t s F;
    steps_are_accepted_steps = F.steps;
    large_settle_rests = λ limit h. large_settle b c M n limit t s F h;
    no_guard_bites = record {
      few_cards = (LB b c M s G).net.few_cards;
      same_cards = G.consistent.net;
      count_not_full = omega (arith, few_steps b c M s G);
      instances_not_full = few_instances b c M s G;
      instance_for_waiting_notes = instance_for_waiting b c M s G;
      room_for_decision = room_for_decision b c M s G;
    };
    broadcast_quiet_at_rest = λ e k. record { empty = (rests e).broadcast_empty; known = suspected k };
    crashed_logs_where_agreed = λ U e k p q u. O.crashed_logs_begin_running_ones (rests e) (suspected k) U p q (runs q u);
  }

no_posts : (v : BroadcastView) → ((m : ℕ) → v.poster m ≡ None) → posts v ≤ 0
unfolding posts
no_posts v e = omega (arith, total_none (λ m. one_if (v.poster m)) 32 (λ m. ap one_if (e m)))

pub few_cards : (cards notes : ℕ) → cards_of cards notes ≤ 6
few_cards cards notes = grind (arith, nat_tests)

as_many : (n : ℕ) → n ≤ 6 → cond (ltb 6 n) 0 n ≡ n
as_many n few = grind (arith, nat_tests, few)

module _ {X Y : Type 0} (b : Broadcasts X) (c : Consensuses Y) (M : Means b c) (n : ℕ) (few : n ≤ 6) (order : List ℕ) (L : Listed order) where
  run_fits : (calls : List Call) → Fits b c n (tally calls (answers_to b c (fresh b c n order) calls)) (left_by b c (fresh b c n order) calls)
  run_fits calls =
      let P = M.broadcast.new_means n in
      fits_calls b c M n calls nothing (fresh b c n order) (record {
        good = good_new b c M n order L;
        cards = P.net.cards ∙ as_many n few;
        poster = P.nothing_posted;
        crashed = P.net.no_crash;
        suspects = P.net.no_suspicion;
        posts = no_posts (shown b (b.start n)) P.nothing_posted;
        steps = refl;
      })

  pub stays_in_order : StaysInOrder b c n (fresh b c n order)
  stays_in_order = record {
    order = λ calls. ordered b c M n _ _ (run_fits calls);
    made = λ calls. let G = (run_fits calls).good in record { broadcast = G.broadcast_made; consensus = G.consensus_made };
  }

-- The law of what the code leaves and answers, where that is what the definitions give.
module _ {X Y K : Type 0} (b : Broadcasts X) (c : Consensuses Y) (precedes : K → K → Bool) (law : OneOrderOfEveryRun b c precedes) (script : Script K) where
  pub order_answered : (end : Carrying b c) (answers : List Answer) → end ≡ left_by b c (begun b c precedes script) script.calls.now
      → answers ≡ answers_to b c (begun b c precedes script) script.calls.now
      → OneOrder b c (cards_in script) (tally script.calls.now answers) end
  order_answered end answers left told =
      subst (λ us. OneOrder b c (cards_in script) (tally script.calls.now us) end) (sym told)
      (subst (OneOrder b c (cards_in script) (tally script.calls.now (answers_to b c (begun b c precedes script) script.calls.now))) (sym left)
      ((law script.cards script.book.now).order script.calls.now))

  pub made_answered : (end : Carrying b c) → end ≡ left_by b c (begun b c precedes script) script.calls.now → PartsMade b c end
  made_answered end left = subst (PartsMade b c) (sym left) ((law script.cards script.book.now).made script.calls.now)

pub crashed_logs : {X Y K : Type 0} (b : Broadcasts X) (c : Consensuses Y) (precedes : K → K → Bool) → OneOrderOfEveryRun b c precedes → CrashedLogsOfEveryRun b c precedes
crashed_logs b c precedes law agrees cards book calls rest suspected =
    let run = law cards book in
    let order = run.order calls in
    order.crashed_logs_where_agreed (agrees _ (run.made calls).broadcast (order.broadcast_quiet_at_rest rest suspected)) rest suspected

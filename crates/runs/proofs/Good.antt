-- What every run keeps of a carrier, call by call.
use Rattle.std.proofs.Common.{◌≡◌, ℕ, suc, ◌+◌, ◌^◌, ◌<◌, ◌≤◌, Bool, true, false, cond, not, ◌&&◌, ◌||◌, ltb, leb, List, [], length, set, is_some, Some, None, filter, Option, sym, refl, ap, ◌∙◌, add-one, arith, length-set, get_or-set_other, get_or-set_same, Ok, Err, Result, is_ok}
use borrow.Author.Tests.{clash}
use lib.Bits.{bit_xor, and_le_l}
use lib.Count.{ones, count_trailing_zeros}
use Rattle.std.proofs.lemmas.Bool.{ltb-true, lt-ltb, and_parts, not-true, cond_both, cond-true}
use Rattle.std.proofs.lemmas.Bool.Decides.{nat_tests}
use Rattle.notes.specs.Sets.{has}
use Rattle.notes.proofs.Bits.{has_minus, has_none, ones_count, zeros_lowest}
use Rattle.parts.specs.Views.{Net, BroadcastView, ConsensusView, Runs}
use Rattle.parts.specs.declared.refusal.Refusal.{Refusal}
use Rattle.parts.specs.declared.refusal.Refusal.TheVariants.{NoSuchCard, CardCrashed, CardRuns, NothingDecided}
use Rattle.parts.specs.Nets.{SameCards}
use Rattle.parts.specs.Refusals.{post_answer, carry_answer, lose_answer, crash_answer, suspect_answer, propose_answer}
use Rattle.parts.specs.Shown.{shown, told}
use Rattle.parts.specs.Broadcasting as broadcasting
use Rattle.parts.specs.Deciding as deciding
use Rattle.parts.proofs.Accepted.{propose_accepted}
use Rattle.parts.proofs.Options.{some_held}
use Rattle.parts.proofs.Lists.{same_all}
use Rattle.parts.specs.declared.broadcast.Broadcast.{Ghosts as Broadcasts}
use Rattle.parts.specs.declared.consensus.Consensus.{Ghosts as Consensuses}
use Rattle.logs.specs.Orders.{number_in, appended, with_all}
use Rattle.logs.proofs.Batches.{passing}
use Rattle.order.specs.Words.{among}
use Rattle.order.specs.Views.{Ledger, Ranks}
use Rattle.order.specs.Steps.{Waiting, Counted, Step}
use Rattle.order.specs.Steps.Step.{post, carry_broadcast, carry_consensus, lose_broadcast, lose_consensus, crash, suspect, propose, take as took}
use Rattle.order.proofs.Invariant.{Consistent}
use Rattle.order.proofs.Keeps.{step_keeps, new_consistent}
use Rattle.order.proofs.Facts.{one_order, room, instance_within_posts, fits_list, posts_few, steps_small}
use Rattle.total_order.specs.Carrying.{Carrying, one_more, fresh, moved, card_count, log_at, instance_at, decision_at, waiting, propose_reply, take_reply}
use Rattle.runs.proofs.Batches.{Listed, ranks, passing_in, passing_once, length_passing, has_with_all}

-- The meanings of the two interfaces.
pub record Means {X Y : Type 0} (b : Broadcasts X) (c : Consensuses Y) : Type 0 where
  pub broadcast : broadcasting.Meaning (shown b) b.made b.bound b.start b.posting b.carrying b.losing b.crashing b.suspecting
  pub consensus : deciding.Meaning (told c) c.made c.bound c.start c.proposing c.carrying c.losing c.crashing c.suspecting

abbrev pub ledger : {X Y : Type 0} (b : Broadcasts X) (c : Consensuses Y) → Carrying b c → Ledger
ledger b c s = record { log = log_at b c s; instance = instance_at b c s; steps = s.steps }

pub record Good {X Y : Type 0} (b : Broadcasts X) (c : Consensuses Y) (s : Carrying b c) : Type 0 where
  pub broadcast_made : b.made s.broadcast
  pub consensus_made : c.made s.consensus
  pub listed : Listed s.order
  pub six_logs : length s.logs ≡ 6
  pub six_instances : length s.instances ≡ 6
  pub consistent : Consistent b.bound c.bound (length s.order) (λ d. filter (has d) s.order) (shown b s.broadcast) (told c s.consensus) (ledger b c s)

crash_same : (v w : Net) (p : ℕ) → SameCards v w → crash_answer w p ≡ crash_answer v p
crash_same v w p S =
    ap (λ n. cond (ltb p n) (cond (w.crashed p) (Err CardCrashed) (Ok tt)) (Err NoSuchCard)) S.cards
    ∙ ap (λ t. cond (ltb p v.cards) (cond t (Err CardCrashed) (Ok tt)) (Err NoSuchCard)) (S.crashed p)

suspect_same : (v w : Net) (q p : ℕ) → SameCards v w → suspect_answer w q p ≡ suspect_answer v q p
suspect_same v w q p S =
    ap (λ n. cond (ltb q n && ltb p n) (cond (w.crashed q) (Err CardCrashed) (cond (w.crashed p) (Ok tt) (Err CardRuns))) (Err NoSuchCard)) S.cards
    ∙ ap (λ t. cond (ltb q v.cards && ltb p v.cards) (cond t (Err CardCrashed) (cond (w.crashed p) (Ok tt) (Err CardRuns))) (Err NoSuchCard)) (S.crashed q)
    ∙ ap (λ t. cond (ltb q v.cards && ltb p v.cards) (cond (v.crashed q) (Err CardCrashed) (cond t (Ok tt) (Err CardRuns))) (Err NoSuchCard)) (S.crashed p)

module _ {X Y : Type 0} (b : Broadcasts X) (c : Consensuses Y) (M : Means b c) where
  pub good_new : (n : ℕ) (order : List ℕ) → Listed order → Good b c (fresh b c n order)
  good_new n order L = record {
    broadcast_made = M.broadcast.new_made n;
    consensus_made = M.consensus.new_made n;
    listed = L;
    six_logs = refl;
    six_instances = refl;
    consistent = new_consistent n (shown b (b.start n)) (told c (c.start n)) (ledger b c (fresh b c n order)) (record {
      broadcast = M.broadcast.new_means n;
      consensus = M.consensus.new_means n;
      log = λ p. same_all 6 p [];
      instance = λ p. same_all 6 p 0;
      steps = refl;
    });
  }

  module _ (s : Carrying b c) (G : Good b c s) where
    abbrev v : BroadcastView
    v = shown b s.broadcast

    abbrev w : ConsensusView
    w = told c s.consensus

    pub LB : broadcasting.Lawful v
    LB = M.broadcast.lawful s.broadcast G.broadcast_made

    pub LC : deciding.Lawful w
    LC = M.consensus.lawful s.consensus G.consensus_made

    pub R : Ranks (λ d. filter (has d) s.order) (length s.order)
    R = ranks s.order G.listed

    pub few_steps : s.steps < 2 ^ 63
    few_steps = steps_small R LB LC G.consistent M.broadcast.bound_fits_32_bits M.consensus.bound_fits_32_bits

    pub step_counted : one_more s.steps ≡ s.steps + 1
    step_counted = cond-true _ _ _ (lt-ltb s.steps 18446744073709551615 (omega (arith, few_steps)))

    pub few_instances : (p : ℕ) → instance_at b c s p ≤ 32
    few_instances p = omega (arith, instance_within_posts R LB LC G.consistent p, posts_few v)

    instance_counted : (p : ℕ) → one_more (instance_at b c s p) ≡ suc (instance_at b c s p)
    instance_counted p = cond-true _ _ _ (lt-ltb (instance_at b c s p) 18446744073709551615 (omega (arith, few_instances p))) ∙ add-one _

    pub count_is : card_count b c s ≡ b.cards s.broadcast
    count_is = cond_both (ltb (b.cards s.broadcast) 6) (b.cards s.broadcast) 6 (λ n. n ≡ b.cards s.broadcast) (λ _. refl)
        (λ e. let few = LB.net.few_cards in grind (arith, nat_tests, e, few))

    pub waiting_is : (p j : ℕ) → has (waiting b c s p) j ≡ (has (b.handed s.broadcast p) j && not (among j (log_at b c s p)))
    unfolding waiting
    waiting_is p j = has_minus (b.handed s.broadcast p) (with_all 0 (log_at b c s p)) j
        ∙ ap (λ t. has (b.handed s.broadcast p) j && not t) (has_with_all (log_at b c s p) 0 j small ∙ ap (λ t. t || among j (log_at b c s p)) (has_none j))
      where
        small : (m : ℕ) → among m (log_at b c s p) ≡ true → m < 32
        small m h = let P = (one_order R LB LC G.consistent).only_posted_notes p m h in LB.posted_notes_below_32 m (ap is_some P.1)

    waiting_fits : (p : ℕ) → waiting b c s p < 2 ^ 32
    unfolding waiting
    waiting_fits p = omega (arith, and_le_l (b.handed s.broadcast p) (bit_xor (b.handed s.broadcast p) (with_all 0 (log_at b c s p))), LB.sets_fit_32_bits p)

    pub instance_for_waiting : (p m : ℕ) → has (waiting b c s p) m ≡ true → instance_at b c s p < 32
    instance_for_waiting p m h =
        let q = and_parts _ _ (sym (waiting_is p m) ∙ h) in
        let posted = some_held (b.poster s.broadcast m) (LB.only_posted_notes_handed p m q.0) in
        omega (arith, room R LB LC G.consistent p m (not-true _ q.1) posted, posts_few v)

    waits : (p : ℕ) → 0 < waiting b c s p → Waiting v (ledger b c s) p (waiting b c s p)
    waits p l = record {
      handed = λ m h. (and_parts _ _ (sym (waiting_is p m) ∙ h)).0;
      fresh = λ m h. not-true _ (and_parts _ _ (sym (waiting_is p m) ∙ h)).1;
      some = (count_trailing_zeros 32 (waiting b c s p), (zeros_lowest 32 (waiting b c s p) (waiting_fits p) (λ z. omega arith)).1);
    }

    pub room_for_decision : (p d : ℕ) → decision_at b c s p ≡ Some d → length (log_at b c s p) + ones d ≤ 32
    room_for_decision p d e =
        let small = LC.decisions_were_proposed (instance_at b c s p) p d e in
        let fits = LC.proposals_fit_32_bits (instance_at b c s p) small.0 d small.1 in
        let all = fits_list R LB LC G.consistent p d (passing (has d) 32) e (passing_once (has d) 32) (λ m h. (passing_in (has d) 32 m h).1) in
        omega (arith, all, length_passing (has d) 32, ones_count 32 d fits, posts_few v)

    -- A call that leaves logs and instances.
    keeps : (x : b.State) (y : c.State) (n : ℕ) → b.made x → c.made y
        → Step b.bound c.bound (length s.order) (λ d. filter (has d) s.order) v w (ledger b c s) (shown b x) (told c y) (record { log = log_at b c s; instance = instance_at b c s; steps = n })
        → Good b c (moved b c s x y n)
    keeps x y n mx my t = record {
      broadcast_made = mx;
      consensus_made = my;
      listed = G.listed;
      six_logs = G.six_logs;
      six_instances = G.six_instances;
      consistent = step_keeps LC G.consistent t;
    }

    tick : Counted (ledger b c s) (record { log = log_at b c s; instance = instance_at b c s; steps = one_more s.steps })
    tick = record { log = λ p. refl; instance = λ p. refl; steps = step_counted }

    pub good_post : (p m : ℕ) → m < length s.order → post_answer v p m ≡ Ok tt → Good b c (moved b c s (b.posting s.broadcast p m) s.consensus s.steps)
    good_post p m l e = keeps _ _ _ (M.broadcast.post_made s.broadcast p m G.broadcast_made e) G.consensus_made
        (post p m l e (M.broadcast.post_means s.broadcast p m G.broadcast_made e))

    pub good_carry_broadcast : (i : ℕ) → carry_answer v.net i ≡ Ok tt → Good b c (moved b c s (b.carrying s.broadcast i) s.consensus (one_more s.steps))
    good_carry_broadcast i e = keeps _ _ _ (M.broadcast.carry_made s.broadcast i G.broadcast_made e) G.consensus_made
        (carry_broadcast (M.broadcast.carry_means s.broadcast i G.broadcast_made e) tick)

    pub good_carry_consensus : (i : ℕ) → carry_answer w.net i ≡ Ok tt → Good b c (moved b c s s.broadcast (c.carrying s.consensus i) (one_more s.steps))
    good_carry_consensus i e = keeps _ _ _ G.broadcast_made (M.consensus.carry_made s.consensus i G.consensus_made e)
        (carry_consensus (M.consensus.carry_means s.consensus i G.consensus_made e) tick)

    pub good_lose_broadcast : (i : ℕ) → lose_answer v.net i ≡ Ok tt → Good b c (moved b c s (b.losing s.broadcast i) s.consensus (one_more s.steps))
    good_lose_broadcast i e = keeps _ _ _ (M.broadcast.lose_made s.broadcast i G.broadcast_made e) G.consensus_made
        (lose_broadcast i (M.broadcast.lose_means s.broadcast i G.broadcast_made e) tick)

    pub good_lose_consensus : (i : ℕ) → lose_answer w.net i ≡ Ok tt → Good b c (moved b c s s.broadcast (c.losing s.consensus i) (one_more s.steps))
    good_lose_consensus i e = keeps _ _ _ G.broadcast_made (M.consensus.lose_made s.consensus i G.consensus_made e)
        (lose_consensus i (M.consensus.lose_means s.consensus i G.consensus_made e) tick)

    -- The consensus accepts what the broadcast accepts.
    pub crash_both : (p : ℕ) → crash_answer v.net p ≡ Ok tt → crash_answer w.net p ≡ Ok tt
    crash_both p e = crash_same v.net w.net p G.consistent.net ∙ e

    pub suspect_both : (q p : ℕ) → suspect_answer v.net q p ≡ Ok tt → suspect_answer w.net q p ≡ Ok tt
    suspect_both q p e = suspect_same v.net w.net q p G.consistent.net ∙ e

    pub good_crash : (p : ℕ) → crash_answer v.net p ≡ Ok tt → Good b c (moved b c s (b.crashing s.broadcast p) (c.crashing s.consensus p) s.steps)
    good_crash p e = let f = crash_both p e in
        keeps _ _ _ (M.broadcast.crash_made s.broadcast p G.broadcast_made e) (M.consensus.crash_made s.consensus p G.consensus_made f)
        (crash p (M.broadcast.crash_means s.broadcast p G.broadcast_made e) (M.consensus.crash_means s.consensus p G.consensus_made f))

    pub good_suspect : (q p : ℕ) → suspect_answer v.net q p ≡ Ok tt → Good b c (moved b c s (b.suspecting s.broadcast q p) (c.suspecting s.consensus q p) s.steps)
    good_suspect q p e = let f = suspect_both q p e in
        keeps _ _ _ (M.broadcast.suspect_made s.broadcast q p G.broadcast_made e) (M.consensus.suspect_made s.consensus q p G.consensus_made f)
        (suspect q p (M.broadcast.suspect_means s.broadcast q p G.broadcast_made e) (M.consensus.suspect_means s.consensus q p G.consensus_made f))

    pub proposed : (p : ℕ) → propose_reply b c s p ≡ Ok tt → propose_answer w (instance_at b c s p) p (waiting b c s p) ≡ Ok tt
    proposed p e = go (ltb p (card_count b c s)) e
      where
        go : (t : Bool) → cond t (propose_answer w (instance_at b c s p) p (waiting b c s p)) (Err NoSuchCard) ≡ Ok tt → propose_answer w (instance_at b c s p) p (waiting b c s p) ≡ Ok tt
        go true h = h
        go false h = absurd (clash (ap is_ok h))

    pub good_propose : (p : ℕ) → propose_reply b c s p ≡ Ok tt → Good b c (moved b c s s.broadcast (c.proposing s.consensus (instance_at b c s p) p (waiting b c s p)) (one_more s.steps))
    good_propose p e =
        let i = instance_at b c s p in
        let u = waiting b c s p in
        let f = proposed p e in
        keeps _ _ _ G.broadcast_made (M.consensus.propose_made s.consensus i p u G.consensus_made (waiting_fits p) f)
        (propose p u (waits p (propose_accepted w i p u f).4) f (M.consensus.propose_means s.consensus i p u G.consensus_made (waiting_fits p) f) tick)

    pub taken_by : (p : ℕ) → take_reply b c s p ≡ Ok tt → Runs v.net p × (decision_at b c s p ≡ Some (number_in (decision_at b c s p)))
    taken_by p e = go (ltb p (card_count b c s)) refl (b.crashed s.broadcast p) refl (decision_at b c s p) refl e
      where
        go : (t : Bool) → ltb p (card_count b c s) ≡ t → (u : Bool) → b.crashed s.broadcast p ≡ u → (o : Option ℕ) → decision_at b c s p ≡ o
            → ◌≡◌ {A = Result Unit Refusal} (cond t (cond u (Err CardCrashed) (cond (is_some o) (Ok tt) (Err NothingDecided))) (Err NoSuchCard)) (Ok tt) → Runs v.net p × (o ≡ Some (number_in o))
        go true h false k (Some x) i z = (record { card = omega (arith, ltb-true p (card_count b c s) h, count_is); up = k }, refl)
        go true h false k None i z = absurd (clash (ap is_ok z))
        go true h true k o i z = absurd (clash (ap is_ok z))
        go false h u k o i z = absurd (clash (ap is_ok z))

    pub good_take : (p : ℕ) → take_reply b c s p ≡ Ok tt → Good b c (record {
      broadcast = s.broadcast;
      consensus = s.consensus;
      order = s.order;
      logs = set s.logs p (appended s.order (log_at b c s p) (number_in (decision_at b c s p)));
      instances = set s.instances p (one_more (instance_at b c s p));
      steps = one_more s.steps;
    })
    good_take p e =
        let d = number_in (decision_at b c s p) in
        let f = taken_by p e in
        let few = LB.net.few_cards in
        let here = f.0.card in
        let fits : leb (length (log_at b c s p) + ones d) 32 ≡ true = let r = room_for_decision p d f.1 in grind (arith, nat_tests, r) in
        record {
          broadcast_made = G.broadcast_made;
          consensus_made = G.consensus_made;
          listed = G.listed;
          six_logs = length-set s.logs p _ ∙ G.six_logs;
          six_instances = length-set s.instances p _ ∙ G.six_instances;
          consistent = step_keeps LC G.consistent (took p d f.0 f.1 (record {
            log = get_or-set_same s.logs p _ [] (omega (arith, here, few, G.six_logs)) ∙ cond-true _ _ _ fits;
            instance = get_or-set_same s.instances p _ 0 (omega (arith, here, few, G.six_instances)) ∙ instance_counted p;
            logs = λ q n. get_or-set_other s.logs p q _ [] n;
            instances = λ q n. get_or-set_other s.instances p q _ 0 n;
            steps = step_counted;
          }));
        }

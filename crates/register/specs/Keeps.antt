-- `new` and the calls make registers that hold together.
use Rattle.std.specs.Prelude.{◌≡◌, ℕ, ◌^◌, ◌<◌, Bool, true, false, cond, not, ◌&&◌, ◌||◌, ◌⊎◌, List, [], ◌∷◌, length, is_some, Some, None, Option, ◌==◌, refl, Ok}
use Rattle.std.proofs.Common.{sym, ap, subst, ◌∙◌, inl, inr, ⊎_elim, arith}
use borrow.Author.Tests.{clash}
use Rattle.std.specs.List.{slice_get, remove, AllByRecursion, list_any}
use Rattle.std.proofs.ByRecursion.{All-append, All-weaker}
use Rattle.std.proofs.lemmas.List.Folds.{list_any-append}
use Rattle.std.proofs.lemmas.Bool.{or_cases, or_left, or_right, and_parts, and_from, and_left, eq-eqb, not_from_true, not_from_false, cases_Bool, cond-true, cond-false, both_ways}
use Rattle.parts.specs.Refusals.{propose_answer, carry_answer, lose_answer, crash_answer, suspect_answer}
use Rattle.parts.proofs.Accepted.{propose_accepted, crash_accepted, suspect_accepted}
use Rattle.parts.proofs.Options.{some_held}
use Rattle.cards.specs.Cards.{CardState, crashed_in, with_crash, with_suspicion}
use Rattle.tables.specs.Tables.{Shaped, ballot_in, with_ballot}
use Rattle.wire.specs.Wires.{item}
use Rattle.wire.specs.declared.Item.{Item}
use Rattle.wire.proofs.Items.{all_removed, all_nth, any_split}
use Rattle.parts.proofs.Lists.{same_all, same_rows}
use Rattle.cards.proofs.Nets.{new_sound, crash_sound, suspect_sound, up_before}
use Rattle.wire.proofs.Taken.{carried_item, lost_item}
use Rattle.register.specs.Held.{held_in}
use Rattle.register.specs.Register.{RegisterState, seen, new_register, propose_on, carry_on, fill_by, decide_by, lose_on, crash_on, suspect_on}
use Rattle.register.specs.Made.{Underway, brings, MadeRegister}
use Rattle.tables.proofs.Written.{new_shaped, shaped_after, place_written, instance_below}
use Rattle.register.specs.Changes.{some_or, which, same_place, filled_length, filled_stays, filled_holds, filled_from}

pub new_made : (n : ℕ) → MadeRegister (new_register n)
new_made n =
    record {
      sound = new_sound n;
      proposals_shaped = new_shaped None;
      decisions_shaped = new_shaped None;
      held_shaped = refl;
      proposers = λ k p h. absurd (clash (sym (ap is_some (same_rows 32 6 k p None)) ∙ h));
      proposed_sets = λ k p s h. absurd (clash (ap is_some (sym (same_rows 32 6 k p None) ∙ h)));
      items = tt;
      held_proposed = λ k s h. absurd (clash (ap is_some (sym (same_all 32 k None) ∙ h)));
      decided_proposed = λ k p h. absurd (clash (sym (ap is_some (same_rows 32 6 k p None)) ∙ h));
      decided_held = λ k p s h. absurd (clash (ap is_some (sym (same_rows 32 6 k p None) ∙ h)));
      due = λ k p u h. absurd (clash (sym (ap is_some (same_rows 32 6 k p None)) ∙ h));
    }

-- A proposal.

pub proposal_after : (x : RegisterState) (k p s j q : ℕ) → MadeRegister x → propose_answer (seen x) k p s ≡ Ok tt → ballot_in (with_ballot x.proposals k p (Some s)) j q ≡ cond (j == k && q == p) (Some s) (ballot_in x.proposals j q)
proposal_after x k p s j q g h =
    let f = propose_accepted (seen x) k p s h in
    place_written x.proposals k p j q (Some s) None g.proposals_shaped f.3 (omega (arith, f.0, g.sound.few))

proposed_stays : (x : RegisterState) (k p s j q r : ℕ) → MadeRegister x → propose_answer (seen x) k p s ≡ Ok tt → ballot_in x.proposals j q ≡ Some r → ballot_in (with_ballot x.proposals k p (Some s)) j q ≡ Some r
proposed_stays x k p s j q r g h e =
    ⊎_elim
    (λ b. let z = same_place j q k p b in absurd (clash (sym (propose_accepted (seen x) k p s h).2 ∙ ap is_some (sym (ap (λ a. ballot_in x.proposals a p) z.0 ∙ refl) ∙ ap (ballot_in x.proposals j) (sym z.1) ∙ e))))
    (λ b. proposal_after x k p s j q g h ∙ cond-false (j == k && q == p) (Some s) (ballot_in x.proposals j q) b ∙ e)
    (cases_Bool (j == k && q == p))

either_way : (d w o : Bool) → (o ≡ true) ⊎ ((d || w) ≡ true) → (d || (w || o)) ≡ true
either_way true w o h = refl
either_way false true o h = refl
either_way false false o h = ⊎_elim (λ e. e) (λ e. absurd (clash e)) h

pub propose_made : (x : RegisterState) (k p s : ℕ) → MadeRegister x → s < 2 ^ 32 → propose_answer (seen x) k p s ≡ Ok tt → MadeRegister (propose_on x k p s)
propose_made x k p s g fits h =
    let f = propose_accepted (seen x) k p s h in
    let new : List (List (Option ℕ)) = with_ballot x.proposals k p (Some s) in
    let any : (j q : ℕ) → is_some (ballot_in new j q) ≡ ((j == k && q == p) || is_some (ballot_in x.proposals j q)) = λ j q. ap is_some (proposal_after x k p s j q g h) ∙ some_or (j == k && q == p) s (ballot_in x.proposals j q) in
    record {
      sound = g.sound;
      proposals_shaped = shaped_after x.proposals k p (Some s) g.proposals_shaped f.3;
      decisions_shaped = g.decisions_shaped;
      held_shaped = g.held_shaped;
      proposers = λ j q e. ⊎_elim (λ b. subst (λ r. r < x.cards.count) (sym (same_place j q k p b).1) f.0) (λ b. g.proposers j q b) (or_cases _ _ (sym (any j q) ∙ e));
      proposed_sets = λ j q r e.
          ⊎_elim
          (λ b. let z : s ≡ r = let w = b.1 in cc in (subst (λ n. 0 < n) z f.4, subst (λ n. n < 2 ^ 32) z fits))
          (λ b. g.proposed_sets j q r b.1)
          (which (j == k && q == p) (Some s) (ballot_in x.proposals j q) (Some r) (sym (proposal_after x k p s j q g h) ∙ e));
      items = All-append (Underway x.cards new) x.wire (item p 7 k ∷ [])
          (All-weaker (Underway x.cards x.proposals) (Underway x.cards new) (λ y u. record { card = u.card; proposed = any y.load y.from ∙ or_right _ _ u.proposed }) x.wire g.items)
          (record { card = f.0; proposed = any k p ∙ or_left _ _ (and_from _ _ (eq-eqb k k refl) (eq-eqb p p refl)) }, tt);
      held_proposed = λ j r e. let o = g.held_proposed j r e in (o.0, proposed_stays x k p s j o.0 r g h o.1);
      decided_proposed = λ j q e. any j q ∙ or_right _ _ (g.decided_proposed j q e);
      decided_held = g.decided_held;
      due = λ j q u e.
          ap (λ b. is_some (ballot_in x.decisions j q) || b) (list_any-append (brings j q) x.wire (item p 7 k ∷ []))
          ∙ either_way (is_some (ballot_in x.decisions j q)) (list_any (brings j q) x.wire) (list_any (brings j q) (item p 7 k ∷ []))
          (⊎_elim
          (λ b. let z = same_place j q k p b in inl (or_left _ _ (and_from _ _ (eq-eqb k j (sym z.0)) (eq-eqb p q (sym z.1)))))
          (λ b. inr (g.due j q u b))
          (or_cases _ _ (sym (any j q) ∙ e)));
    }

-- A carry: the item y is taken.

-- What is decided afterwards.
pub decision_after : (x : RegisterState) (y : Item ℕ) (j q : ℕ) → MadeRegister x → Underway x.cards x.proposals y
    → ballot_in (decide_by x (Some y)) j q ≡ cond (not (crashed_in x.cards y.from) && (j == y.load && q == y.from)) (held_in (fill_by x (Some y)) y.load) (ballot_in x.decisions j q)
decision_after x y j q g u =
    let k = y.load in
    let p = y.from in
    let o = held_in (fill_by x (Some y)) k in
    let old = x.decisions in
    ⊎_elim
    (λ d. ap (λ t. ballot_in t j q) (cond-true (crashed_in x.cards p) old (with_ballot old k p o) d) ∙ sym (cond-false _ o (ballot_in old j q) (and_left _ _ (not_from_true _ d))))
    (λ d. ap (λ t. ballot_in t j q) (cond-false (crashed_in x.cards p) old (with_ballot old k p o) d)
    ∙ place_written old k p j q o None g.decisions_shaped (instance_below x.proposals k p g.proposals_shaped u.proposed) (omega (arith, u.card, g.sound.few))
    ∙ ap (λ b. cond (b && (j == k && q == p)) o (ballot_in old j q)) (sym (not_from_false _ d)))
    (cases_Bool (crashed_in x.cards p))

regroup : (d b w : Bool) → (b ≡ true → d ≡ true) → (d || (b || w)) ≡ true → (d || w) ≡ true
regroup true b w f e = refl
regroup false true w f e = absurd (clash (f refl))
regroup false false w f e = e

taken_made : (x : RegisterState) (i : ℕ) (y : Item ℕ) → MadeRegister x → slice_get x.wire i ≡ Some y
    → MadeRegister (record { cards = x.cards; proposals = x.proposals; decisions = decide_by x (Some y); held = fill_by x (Some y); wire = remove x.wire i })
taken_made x i y g e =
    let k = y.load in
    let p = y.from in
    let u = all_nth (Underway x.cards x.proposals) x.wire i y g.items e in
    let low = instance_below x.proposals k p g.proposals_shaped u.proposed in
    let fit : k < length x.held = omega (arith, g.held_shaped) in
    let s = some_held (ballot_in x.proposals k p) u.proposed in
    let test : ℕ → ℕ → Bool = λ j q. not (crashed_in x.cards p) && (j == k && q == p) in
    let full = filled_holds x.held k s.0 (ballot_in x.proposals k p) fit s.1 in
    let at : (j q : ℕ) → test j q ≡ true → (j ≡ k) × (q ≡ p) = λ j q b. same_place j q k p (and_parts _ _ b).1 in
    record {
      sound = g.sound;
      proposals_shaped = g.proposals_shaped;
      decisions_shaped = shaped (crashed_in x.cards p) g.decisions_shaped (shaped_after x.decisions k p (held_in (fill_by x (Some y)) k) g.decisions_shaped low);
      held_shaped = filled_length x.held k (ballot_in x.proposals k p) ∙ g.held_shaped;
      proposers = g.proposers;
      proposed_sets = g.proposed_sets;
      items = all_removed (Underway x.cards x.proposals) x.wire i g.items;
      held_proposed = λ j r h. ⊎_elim (λ o. g.held_proposed j r o) (λ o. (p, ap (λ a. ballot_in x.proposals a p) o.0 ∙ o.1)) (filled_from x.held k j r (ballot_in x.proposals k p) fit h);
      decided_proposed = λ j q h.
          ⊎_elim
          (λ b. subst (λ a. is_some (ballot_in x.proposals a q) ≡ true) (sym (at j q b).0) (subst (λ a. is_some (ballot_in x.proposals k a) ≡ true) (sym (at j q b).1) u.proposed))
          (λ b. g.decided_proposed j q (sym (ap is_some (decision_after x y j q g u ∙ cond-false (test j q) _ _ b)) ∙ h))
          (cases_Bool (test j q));
      decided_held = λ j q r h.
          ⊎_elim
          (λ b. ap (held_in (fill_by x (Some y))) (at j q b.0).0 ∙ b.1)
          (λ b. filled_stays x.held k j r (ballot_in x.proposals k p) (g.decided_held j q r b.1))
          (which (test j q) (held_in (fill_by x (Some y)) k) (ballot_in x.decisions j q) (Some r) (sym (decision_after x y j q g u) ∙ h));
      due = λ j q v h.
          regroup (is_some (ballot_in (decide_by x (Some y)) j q)) (brings j q y) (list_any (brings j q) (remove x.wire i))
          (λ b.
          let z = same_place k p j q b in
          let t : test j q ≡ true = and_from _ _ (not_from_false _ (subst (λ a. crashed_in x.cards a ≡ false) (sym z.1) v)) (and_from _ _ (eq-eqb j k (sym z.0)) (eq-eqb q p (sym z.1))) in
          ap is_some (decision_after x y j q g u ∙ cond-true (test j q) _ _ t) ∙ full)
          (ap (λ b. is_some (ballot_in (decide_by x (Some y)) j q) || b) (sym (any_split (brings j q) x.wire i y e))
          ∙ ⊎_elim
          (λ d. or_left _ _
          (⊎_elim (λ b. ap is_some (decision_after x y j q g u ∙ cond-true (test j q) _ _ b) ∙ full) (λ b. ap is_some (decision_after x y j q g u ∙ cond-false (test j q) _ _ b) ∙ d) (cases_Bool (test j q))))
          (λ d. or_right _ _ d)
          (or_cases _ _ (g.due j q v h)));
    }
  where
    shaped : (b : Bool) {t t' : List (List (Option ℕ))} → Shaped t → Shaped t' → Shaped (cond b t t')
    shaped true f f' = f
    shaped false f f' = f'

pub carry_made : (x : RegisterState) (i : ℕ) → MadeRegister x → carry_answer (seen x).net i ≡ Ok tt → MadeRegister (carry_on x i)
carry_made x i g h =
    let t = carried_item x.cards x.wire (length x.wire) i h in
    rw t.1 (taken_made x i t.0 g t.1)

-- A loss, a crash, a suspicion.

pub lose_made : (x : RegisterState) (i : ℕ) → MadeRegister x → lose_answer (seen x).net i ≡ Ok tt → MadeRegister (lose_on x i)
lose_made x i g h =
    let t = lost_item x.cards x.wire (length x.wire) i h in
    record {
      sound = g.sound;
      proposals_shaped = g.proposals_shaped;
      decisions_shaped = g.decisions_shaped;
      held_shaped = g.held_shaped;
      proposers = g.proposers;
      proposed_sets = g.proposed_sets;
      items = all_removed (Underway x.cards x.proposals) x.wire i g.items;
      held_proposed = g.held_proposed;
      decided_proposed = g.decided_proposed;
      decided_held = g.decided_held;
      due = λ k p u e.
          regroup (is_some (ballot_in x.decisions k p)) (brings k p t.0) (list_any (brings k p) (remove x.wire i))
          (λ b. absurd (both_ways _ u (subst (λ a. crashed_in x.cards a ≡ true) (same_place t.0.load t.0.from k p b).1 t.3)))
          (ap (λ b. is_some (ballot_in x.decisions k p) || b) (sym (any_split (brings k p) x.wire i t.0 t.1)) ∙ g.due k p u e);
    }

same_items : (c c' : CardState) (t : List (List (Option ℕ))) (xs : List (Item ℕ)) → c'.count ≡ c.count → AllByRecursion (Underway c t) xs → AllByRecursion (Underway c' t) xs
same_items c c' t xs e = All-weaker (Underway c t) (Underway c' t) (λ y u. record { card = subst (λ n. y.from < n) (sym e) u.card; proposed = u.proposed }) xs

pub crash_made : (x : RegisterState) (p : ℕ) → MadeRegister x → crash_answer (seen x).net p ≡ Ok tt → MadeRegister (crash_on x p)
crash_made x p g h =
    let f = crash_accepted (seen x).net p h in
    record {
      sound = crash_sound x.cards p g.sound f.0;
      proposals_shaped = g.proposals_shaped;
      decisions_shaped = g.decisions_shaped;
      held_shaped = g.held_shaped;
      proposers = g.proposers;
      proposed_sets = g.proposed_sets;
      items = same_items x.cards (with_crash x.cards p) x.proposals x.wire refl g.items;
      held_proposed = g.held_proposed;
      decided_proposed = g.decided_proposed;
      decided_held = g.decided_held;
      due = λ k q u e. g.due k q (up_before x.cards p q g.sound f.0 u).1 e;
    }

pub suspect_made : (x : RegisterState) (q p : ℕ) → MadeRegister x → suspect_answer (seen x).net q p ≡ Ok tt → MadeRegister (suspect_on x q p)
suspect_made x q p g h =
    let f = suspect_accepted (seen x).net q p h in
    record {
      sound = suspect_sound x.cards q p g.sound f.0 f.1 f.3;
      proposals_shaped = g.proposals_shaped;
      decisions_shaped = g.decisions_shaped;
      held_shaped = g.held_shaped;
      proposers = g.proposers;
      proposed_sets = g.proposed_sets;
      items = same_items x.cards (with_suspicion x.cards q p) x.proposals x.wire refl g.items;
      held_proposed = g.held_proposed;
      decided_proposed = g.decided_proposed;
      decided_held = g.decided_held;
      due = g.due;
    }

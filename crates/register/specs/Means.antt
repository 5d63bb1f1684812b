-- Each call, from what it makes of a register to what the interface says of it.
use Rattle.std.specs.Prelude.{◌≡◌, ℕ, ◌^◌, ◌<◌, Bool, not, ◌&&◌, ◌⊎◌, length, Some, None, ◌==◌, refl, Ok}
use Rattle.std.proofs.Common.{sym, ap, ◌∙◌, inl, ⊎_elim, arith}
use borrow.Author.Tests.{clash}
use Rattle.std.specs.List.{slice_get, remove, list_any}
use Rattle.std.proofs.lemmas.List.Edits.{length-remove}
use Rattle.std.proofs.ByRecursion.{All-map, All-weaker}
use Rattle.std.proofs.lemmas.List.{length_push}
use Rattle.std.proofs.lemmas.Bool.{or_cases, and_parts, cases_Bool, cond-true, cond-false, not-true, both_ways}
use Rattle.parts.specs.Views.{ConsensusView}
use Rattle.parts.specs.Refusals.{propose_answer, carry_answer, lose_answer, crash_answer, suspect_answer}
use Rattle.parts.specs.Deciding.{Started, DecidedMore, Proposed, Carried, Lost, Crashed, Suspected, Lawful}
use Rattle.parts.proofs.Accepted.{crash_accepted, suspect_accepted}
use Rattle.cards.specs.Cards.{crashed_in}
use Rattle.tables.specs.Tables.{ballot_in}
use Rattle.wire.specs.Wires.{senders, item}
use Rattle.wire.specs.declared.Item.{Item}
use Rattle.wire.proofs.Items.{all_nth, part_all}
use Rattle.parts.proofs.Lists.{same_rows}
use Rattle.cards.proofs.Nets.{new_net, same_cards, net_crashed, net_suspected, lawful_net}
use Rattle.wire.proofs.Taken.{carried_item, lost_item, net_lost}
use Rattle.wire.proofs.Wires.{nothing_left, length_senders}
use Rattle.register.specs.Held.{held_in}
use Rattle.register.specs.Register.{RegisterState, seen, new_register, propose_on, carry_on, fill_by, decide_by, lose_on, crash_on, suspect_on}
use Rattle.register.specs.Made.{Underway, brings, MadeRegister}
use Rattle.tables.proofs.Written.{instance_below}
use Rattle.register.specs.Changes.{same_place, filled_stays}
use Rattle.register.specs.Keeps.{proposal_after, decision_after}

same_decisions : (v w : ConsensusView) → w.decision ≡ v.decision → DecidedMore v w
same_decisions v w e = record { decisions_stand = λ k p s h. ap (λ f. f k p) e ∙ h; crashed_decide_nothing = λ k p h. ap (λ f. f k p) e }

pub new_means : (n : ℕ) → Started n (seen (new_register n))
new_means n = record { net = new_net n; nothing_proposed = λ k p. same_rows 32 6 k p None; nothing_decided = λ k p. same_rows 32 6 k p None }

pub propose_means : (x : RegisterState) (k p s : ℕ) → MadeRegister x → s < 2 ^ 32 → propose_answer (seen x) k p s ≡ Ok tt → Proposed 1 (seen x) (seen (propose_on x k p s)) k p s
propose_means x k p s g fits h =
    record {
      same_cards = same_cards x.cards _ _ _ _;
      work_rises_by_bound = omega (arith, length_push x.wire (item p 7 k));
      proposal_stands = λ j q. proposal_after x k p s j q g h;
      decided_more = same_decisions _ _ refl;
    }

taken_means : (x : RegisterState) (i : ℕ) (y : Item ℕ) → MadeRegister x → slice_get x.wire i ≡ Some y → i < length x.wire
    → Carried (seen x) (seen (record { cards = x.cards; proposals = x.proposals; decisions = decide_by x (Some y); held = fill_by x (Some y); wire = remove x.wire i }))
taken_means x i y g e l =
    let k = y.load in
    let p = y.from in
    let u = all_nth (Underway x.cards x.proposals) x.wire i y g.items e in
    let test : ℕ → ℕ → Bool = λ j q. not (crashed_in x.cards p) && (j == k && q == p) in
    record {
      net = record { same_cards = same_cards x.cards _ _ _ _; work_falls = omega (arith, length-remove x.wire i l) };
      proposals_stay = λ j q. refl;
      decided_more = record {
        decisions_stand = λ j q s h.
            decision_after x y j q g u
            ∙ ⊎_elim
            (λ b. cond-true (test j q) _ _ b ∙ ap (held_in (fill_by x (Some y))) (sym (same_place j q k p (and_parts _ _ b).1).0) ∙ filled_stays x.held k j s (ballot_in x.proposals k p) (g.decided_held j q s h))
            (λ b. cond-false (test j q) _ _ b ∙ h)
            (cases_Bool (test j q));
        crashed_decide_nothing = λ j q h.
            decision_after x y j q g u
            ∙ ⊎_elim
            (λ b. absurd (both_ways _ (ap (crashed_in x.cards) (same_place j q k p (and_parts _ _ b).1).1 ∙ not-true _ (and_parts _ _ b).0) h))
            (λ b. cond-false (test j q) _ _ b)
            (cases_Bool (test j q));
      };
    }

pub carry_means : (x : RegisterState) (i : ℕ) → MadeRegister x → carry_answer (seen x).net i ≡ Ok tt → Carried (seen x) (seen (carry_on x i))
carry_means x i g h =
    let t = carried_item x.cards x.wire (length x.wire) i h in
    rw t.1 (taken_means x i t.0 g t.1 t.2)

pub lose_means : (x : RegisterState) (i : ℕ) → MadeRegister x → lose_answer (seen x).net i ≡ Ok tt → Lost (seen x) (seen (lose_on x i)) i
lose_means x i g h =
    record { net = net_lost x.cards x.wire i (lost_item x.cards x.wire (length x.wire) i h).2; proposals_stay = λ k p. refl; decisions_stay = λ k p. refl }

pub crash_means : (x : RegisterState) (p : ℕ) → MadeRegister x → crash_answer (seen x).net p ≡ Ok tt → Crashed (seen x) (seen (crash_on x p)) p
crash_means x p g h =
    record {
      net = net_crashed x.cards p _ _ _ _ g.sound (crash_accepted (seen x).net p h).0 (part_all (senders x.wire)) (omega arith);
      proposals_stay = λ k q. refl;
      decisions_stay = λ k q. refl;
    }

pub suspect_means : (x : RegisterState) (q p : ℕ) → MadeRegister x → suspect_answer (seen x).net q p ≡ Ok tt → Suspected (seen x) (seen (suspect_on x q p)) q p
suspect_means x q p g h =
    let f = suspect_accepted (seen x).net q p h in
    record { net = net_suspected x.cards q p _ _ _ _ g.sound f.0 f.1 (omega arith); proposals_stay = λ k r. refl; decided_more = same_decisions _ _ refl }

pub lawful : (x : RegisterState) → MadeRegister x → Lawful (seen x)
lawful x g =
    record {
      net = lawful_net x.cards (senders x.wire) (length x.wire) g.sound
          (All-map (λ s. (s < x.cards.count) ⊎ (s ≡ 7)) (λ y. y.from) x.wire (All-weaker (Underway x.cards x.proposals) (λ y. (y.from < x.cards.count) ⊎ (y.from ≡ 7)) (λ y u. inl u.card) x.wire g.items))
          (omega (arith, length_senders x.wire));
      instances_below_32 = λ k p h. instance_below x.proposals k p g.proposals_shaped h;
      proposers_are_cards = g.proposers;
      proposals_not_empty = λ k p s h. (g.proposed_sets k p s h).0;
      proposals_fit_32_bits = λ k p s h. (g.proposed_sets k p s h).1;
      decided_have_proposed = g.decided_proposed;
      decisions_were_proposed = λ k p s h. g.held_proposed k s (g.decided_held k p s h);
      decisions_equal = λ k p q s t hs ht. let a = g.decided_held k p s hs in let b = g.decided_held k q t ht in cc;
      quiet_all_decided = λ q k all p r.
          ⊎_elim (λ d. d) (λ d. absurd (clash (ap (list_any (brings k p)) (sym (nothing_left x.wire q.empty)) ∙ d))) (or_cases _ _ (g.due k p r.up (all p r)));
    }

-- Each call, from what it makes of a board to what the interface says of it.
use Rattle.std.specs.Prelude.{◌≡◌, ℕ, ◌<◌, true, ◌⊎◌, List, length, is_some, Some, None, refl, Ok}
use Rattle.std.proofs.Common.{sym, ap, subst, ◌∙◌, inr, ⊎_elim, arith}
use Rattle.std.specs.Cmp.Derive.{one_truth}
use borrow.Author.Tests.{clash}
use Rattle.std.specs.List.{slice_get, remove, list_any}
use Rattle.std.proofs.lemmas.List.Edits.{length-remove}
use Rattle.std.proofs.ByRecursion.{All-map, All-weaker}
use Rattle.std.proofs.lemmas.List.{length-append, nil_from_length}
use Rattle.std.proofs.lemmas.Bool.{or_cases, or_left, both_ways}
use Rattle.notes.specs.Sets.{has}
use Rattle.notes.proofs.Bits.{same_sets}
use Rattle.parts.specs.Views.{BroadcastView, Runs, Quiet}
use Rattle.parts.specs.Refusals.{post_answer, carry_answer, lose_answer, crash_answer, suspect_answer}
use Rattle.parts.specs.Broadcasting.{Started, HandedMore, Posted, Carried, Lost, Crashed, Suspected, Lawful, UniformAgreement}
use Rattle.parts.proofs.Accepted.{post_accepted, crash_accepted, suspect_accepted}
use Rattle.cards.specs.Cards.{crashed_in, AllSuspected}
use Rattle.tables.specs.Tables.{poster_in, set_in, with_note}
use Rattle.wire.specs.Wires.{senders, sent, elsewhere}
use Rattle.wire.specs.declared.Item.{Item}
use Rattle.wire.proofs.Items.{all_nth, part_left, length_left}
use Rattle.parts.proofs.Lists.{get_or-set, same_all}
use Rattle.cards.proofs.Nets.{new_net, same_cards, net_crashed, net_suspected, lawful_net, quiet_when, suspected_when}
use Rattle.wire.proofs.Wires.{nothing_left, length_sent, length_senders}
use Rattle.wire.proofs.Taken.{carried_item}
use Rattle.board.specs.Board.{BoardState, seen, new_board, post_on, carry_on, lose_on, crash_on, suspect_on}
use Rattle.board.specs.Made.{Underway, brings, MadeBoard}
use Rattle.tables.proofs.Changes.{posted_below, noted_others_stay}
use Rattle.board.specs.Changes.{handed_more}
use Rattle.board.specs.Keeps.{none_lost}

same_sets_handed : (v w : BroadcastView) → w.handed ≡ v.handed → HandedMore v w
same_sets_handed v w e = record { nothing_taken_out = λ p m h. subst (λ f. has (f p) m ≡ true) (sym e) h; crashed_sets_stay = λ p h. ap (λ f. f p) e }

pub new_means : (n : ℕ) → Started n (seen (new_board n))
new_means n = record { net = new_net n; nothing_posted = λ m. same_all 32 m None; nothing_handed = λ p. same_all 6 p 0 }

pub post_means : (x : BoardState) (p m : ℕ) → MadeBoard x → post_answer (seen x) p m ≡ Ok tt → Posted 6 (seen x) (seen (post_on x p m)) p m
post_means x p m g h =
    let f = post_accepted (seen x) p m h in
    let more : List (Item ℕ) = sent x.cards 7 m x.cards.count in
    record {
      same_cards = same_cards x.cards _ _ _ _;
      work_rises_by_bound = omega (arith, length-append x.wire more, length_sent x.cards 7 m x.cards.count, g.sound.few);
      post_stands = λ j. get_or-set x.posters m j (Some p) None (omega (arith, g.notes, f.2));
      handed_more = same_sets_handed _ _ refl;
    }

carried_means : (x : BoardState) (i : ℕ) (y : Item ℕ) → MadeBoard x → slice_get x.wire i ≡ Some y → i < length x.wire
    → Carried (seen x) (seen (record { cards = x.cards; posters = x.posters; handed = with_note x.handed y.to y.load; wire = remove x.wire i }))
carried_means x i y g e l =
    let u = all_nth (Underway x.cards x.posters) x.wire i y g.items e in
    let s : y.to < length x.handed = omega (arith, u.card, g.sets, g.sound.few) in
    record {
      net = record { same_cards = same_cards x.cards _ _ _ _; work_falls = omega (arith, length-remove x.wire i l) };
      posters_stay = λ j. refl;
      handed_more = record {
        nothing_taken_out = λ p m h. handed_more x.handed y p m s (posted_below x.posters 32 y.load g.notes u.posted) ∙ or_left _ _ h;
        crashed_sets_stay = λ p h. noted_others_stay x.handed y.to y.load p (λ q. both_ways _ (ap (crashed_in x.cards) q ∙ u.up) h);
      };
    }

pub carry_means : (x : BoardState) (i : ℕ) → MadeBoard x → carry_answer (seen x).net i ≡ Ok tt → Carried (seen x) (seen (carry_on x i))
carry_means x i g h =
    let t = carried_item x.cards x.wire (length x.wire) i h in
    rw t.1 (carried_means x i t.0 g t.1 t.2)

pub lose_means : (x : BoardState) (i : ℕ) → MadeBoard x → lose_answer (seen x).net i ≡ Ok tt → Lost (seen x) (seen (lose_on x i)) i
lose_means x i g h = absurd (none_lost x i g h)

pub crash_means : (x : BoardState) (p : ℕ) → MadeBoard x → crash_answer (seen x).net p ≡ Ok tt → Crashed (seen x) (seen (crash_on x p)) p
crash_means x p g h =
    record {
      net = net_crashed x.cards p _ _ _ _ g.sound (crash_accepted (seen x).net p h).0 (part_left (λ y. y.from) (elsewhere p) x.wire) (length_left (elsewhere p) x.wire);
      posters_stay = λ j. refl;
      sets_stay = λ q. refl;
    }

pub suspect_means : (x : BoardState) (q p : ℕ) → MadeBoard x → suspect_answer (seen x).net q p ≡ Ok tt → Suspected (seen x) (seen (suspect_on x q p)) q p
suspect_means x q p g h =
    let f = suspect_accepted (seen x).net q p h in
    record { net = net_suspected x.cards q p _ _ _ _ g.sound f.0 f.1 (omega arith); posters_stay = λ j. refl; handed_more = same_sets_handed _ _ refl }

-- At rest.

-- Each running card of a quiet board has just the posted notes.
has_posted : (x : BoardState) → MadeBoard x → Quiet (seen x).net → (p m : ℕ) → Runs (seen x).net p → has (set_in x.handed p) m ≡ is_some (poster_in x.posters m)
has_posted x g q p m r =
    one_truth _ _ (g.handed_posted p m)
    (λ h. ⊎_elim (λ a. a) (λ b. absurd (clash (ap (list_any (brings m p)) (sym (nothing_left x.wire q.empty)) ∙ b))) (or_cases _ _ (g.due p m r.card r.up h)))

pub lawful : (x : BoardState) → MadeBoard x → Lawful (seen x)
lawful x g =
    record {
      net = lawful_net x.cards (senders x.wire) (length x.wire) g.sound
          (All-map (λ s. (s < x.cards.count) ⊎ (s ≡ 7)) (λ y. y.from) x.wire (All-weaker (Underway x.cards x.posters) (λ y. (y.from < x.cards.count) ⊎ (y.from ≡ 7)) (λ y u. inr u.carrier) x.wire g.items))
          (omega (arith, length_senders x.wire));
      posters_are_cards = g.posters_cards;
      posted_notes_below_32 = λ m h. posted_below x.posters 32 m g.notes h;
      only_posted_notes_handed = g.handed_posted;
      sets_fit_32_bits = g.fits;
      no_card_no_set = g.outside;
      quiet_sets_equal = λ q p r rp rr. same_sets _ _ (λ m. has_posted x g q p m rp ∙ sym (has_posted x g q r m rr));
      quiet_sets_full = λ q p r m rp rr e. has_posted x g q r m rr ∙ ap is_some e;
    }

pub agreed : (x : BoardState) → MadeBoard x → Quiet (seen x).net → UniformAgreement (seen x)
agreed x g q p r m h rr = has_posted x g q r m rr ∙ g.handed_posted p m h

-- The question.

pub quiet_board : (x : BoardState) → length (senders x.wire) ≡ 0 → AllSuspected x.cards → Quiet (seen x).net
quiet_board x e s = quiet_when x.cards (senders x.wire) (length x.wire) (nil_from_length _ e) s

pub quiet_gives : (x : BoardState) → Quiet (seen x).net → (length (senders x.wire) ≡ 0) × AllSuspected x.cards
quiet_gives x q = (ap length q.empty, suspected_when x.cards (senders x.wire) (length x.wire) q)

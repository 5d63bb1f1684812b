-- Each call of all-ack, from what it makes of the state to what the interface says of it.
use Rattle.std.specs.Prelude.{◌≡◌, ℕ, ◌<◌, true, false, length, Some, None, refl, Ok}
use Rattle.std.proofs.Common.{sym, ap, ◌∙◌, ⊎_elim, arith}
use Rattle.std.specs.Cmp.Derive.{one_truth}
use borrow.Author.Tests.{clash}
use Rattle.std.specs.List.{slice_get, list_any}
use Rattle.std.proofs.lemmas.Bool.{both_ways, cases_Bool, or_cases, or_left}
use Rattle.notes.specs.Sets.{has}
use Rattle.notes.proofs.Bits.{same_sets}
use Rattle.parts.specs.Views.{Runs, Quiet}
use Rattle.parts.specs.Refusals.{post_answer, carry_answer, lose_answer, crash_answer, suspect_answer}
use Rattle.parts.specs.Broadcasting.{Started, HandedMore, Posted, Carried, Lost, Crashed, Suspected, Lawful, UniformAgreement}
use Rattle.parts.proofs.Accepted.{post_accepted, crash_accepted, suspect_accepted}
use Rattle.cards.specs.Cards.{crashed_in}
use Rattle.tables.specs.Tables.{set_in}
use Rattle.wire.specs.declared.Item.{Item}
use Rattle.wire.proofs.Wires.{nothing_left}
use Rattle.tables.proofs.Changes.{posted_below, noted_all, noted_all_others_stay}
use Rattle.parts.proofs.Lists.{get_or-set, same_all}
use Rattle.cards.proofs.Nets.{same_cards}
use Rattle.wire.proofs.Taken.{carried_item, lost_item}
use Rattle.spread.specs.Spread as spread
use Rattle.spread.specs.Spread.{spread_work}
use Rattle.spread.specs.Made.{brings}
use Rattle.spread.proofs.Keeps.{item_at}
use Rattle.spread.proofs.Nets.{new_spread_net, post_net, receive_net, lose_net, crash_net, suspect_net, lawful_spread_net}
use Rattle.allack.specs.AllAck.{AllAckState, seen, new_all_ack, spread_to, complete, hand_on, post_on, counting, carry_on, lose_on, crash_on, suspect_on}
use Rattle.allack.specs.Counts.{counted_in}
use Rattle.allack.specs.Made.{MadeAllAck}
use Rattle.allack.specs.Keeps as keeps

pub new_means : (n : ℕ) → Started n (seen (new_all_ack n))
new_means n = record { net = new_spread_net n; nothing_posted = λ m. same_all 32 m None; nothing_handed = λ p. same_all 6 p 0 }

-- A running card is handed what it has completed.
hand_hands : (x y : AllAckState) (p : ℕ) → x.handed ≡ y.handed → p < length x.handed → crashed_in y.spread.cards p ≡ false → HandedMore (seen y) (seen (hand_on x p))
hand_hands x y p e l up =
    record {
      nothing_taken_out = λ q k h. noted_all x.handed p (complete x p x.spread.cards.count) q k l ∙ or_left _ _ (ap (λ t. has (set_in t q) k) e ∙ h);
      crashed_sets_stay = λ q h. noted_all_others_stay x.handed p (complete x p x.spread.cards.count) q (λ z. both_ways _ (ap (crashed_in y.spread.cards) z ∙ up) h) ∙ ap (λ t. set_in t q) e;
    }

pub post_made : (x : AllAckState) (p m : ℕ) → MadeAllAck x → post_answer (seen x) p m ≡ Ok tt → MadeAllAck (post_on x p m)
post_made x p m g h = let f = post_accepted (seen x) p m h in keeps.post_made x p m g f.0 f.1 f.2

pub post_means : (x : AllAckState) (p m : ℕ) → MadeAllAck x → post_answer (seen x) p m ≡ Ok tt → Posted 30 (seen x) (seen (post_on x p m)) p m
post_means x p m g h =
    let f = post_accepted (seen x) p m h in
    let s = g.whole.below.whole in
    record {
      same_cards = same_cards x.spread.cards _ _ _ _;
      work_rises_by_bound = post_net x.spread p m s f.0 f.1 f.2;
      post_stands = λ j. get_or-set x.spread.posters m j (Some p) None (omega (arith, s.notes, f.2));
      handed_more = hand_hands _ x p refl (omega (arith, g.whole.sets, f.0, s.sound.few)) f.1;
    }

pub carry_made : (x : AllAckState) (i : ℕ) → MadeAllAck x → carry_answer (seen x).net i ≡ Ok tt → MadeAllAck (carry_on x i)
carry_made x i g h = let t = carried_item x.spread.cards x.spread.wire (spread_work x.spread) i h in rw t.1 (keeps.receive_made x i t.0 g t.1)

receive_means : (x : AllAckState) (i : ℕ) (y : Item ℕ) → MadeAllAck x → slice_get x.spread.wire i ≡ Some y → i < length x.spread.wire
    → Carried (seen x) (seen (counting (spread_to x (spread.meet_on (spread.without_item x.spread i) y.to y.load)) (Some y)))
receive_means x i y g e l =
    let s = g.whole.below.whole in
    let u = item_at x.spread i y s e in
    record { net = receive_net x.spread i y s e l; posters_stay = λ j. refl; handed_more = hand_hands _ x y.to refl (omega (arith, g.whole.sets, u.card, s.sound.few)) u.up }

pub carry_means : (x : AllAckState) (i : ℕ) → MadeAllAck x → carry_answer (seen x).net i ≡ Ok tt → Carried (seen x) (seen (carry_on x i))
carry_means x i g h = let t = carried_item x.spread.cards x.spread.wire (spread_work x.spread) i h in rw t.1 (receive_means x i t.0 g t.1 t.2)

pub lose_made : (x : AllAckState) (i : ℕ) → MadeAllAck x → lose_answer (seen x).net i ≡ Ok tt → MadeAllAck (lose_on x i)
lose_made x i g h = let t = lost_item x.spread.cards x.spread.wire (spread_work x.spread) i h in keeps.lose_made x i t.0 g t.1 t.3

pub lose_means : (x : AllAckState) (i : ℕ) → MadeAllAck x → lose_answer (seen x).net i ≡ Ok tt → Lost (seen x) (seen (lose_on x i)) i
lose_means x i g h = record { net = lose_net x.spread i (lost_item x.spread.cards x.spread.wire (spread_work x.spread) i h).2; posters_stay = λ j. refl; sets_stay = λ p. refl }

pub crash_made : (x : AllAckState) (p : ℕ) → MadeAllAck x → crash_answer (seen x).net p ≡ Ok tt → MadeAllAck (crash_on x p)
crash_made x p g h = keeps.crash_made x p g (crash_accepted (seen x).net p h).0

pub crash_means : (x : AllAckState) (p : ℕ) → MadeAllAck x → crash_answer (seen x).net p ≡ Ok tt → Crashed (seen x) (seen (crash_on x p)) p
crash_means x p g h = record { net = crash_net x.spread p g.whole.below.whole (crash_accepted (seen x).net p h).0; posters_stay = λ j. refl; sets_stay = λ q. refl }

pub suspect_made : (x : AllAckState) (q p : ℕ) → MadeAllAck x → suspect_answer (seen x).net q p ≡ Ok tt → MadeAllAck (suspect_on x q p)
suspect_made x q p g h = let f = suspect_accepted (seen x).net q p h in keeps.suspect_made x q p g f.0 f.1 f.2 f.3

pub suspect_means : (x : AllAckState) (q p : ℕ) → MadeAllAck x → suspect_answer (seen x).net q p ≡ Ok tt → Suspected (seen x) (seen (suspect_on x q p)) q p
suspect_means x q p g h =
    let f = suspect_accepted (seen x).net q p h in
    let s = g.whole.below.whole in
    record { net = suspect_net x.spread q p s f.0 f.1; posters_stay = λ j. refl; handed_more = hand_hands _ x q refl (omega (arith, g.whole.sets, f.0, s.sound.few)) f.2 }

-- At rest.

module _ (x : AllAckState) (g : MadeAllAck x) (quiet : Quiet (seen x).net) where
  -- A running card has counted each running card that has relayed a note.
  has_counted : (p q m : ℕ) → Runs (seen x).net p → Runs (seen x).net q → has (set_in x.spread.relayed p) m ≡ true → has (counted_in x.counted q p) m ≡ true
  has_counted p q m rp rq h =
      ⊎_elim (λ a. a) (λ b. absurd (clash (ap (list_any (brings p q m)) (sym (nothing_left x.spread.wire quiet.empty)) ∙ b))) (or_cases _ _ (g.due p q m (rp.card, rp.up) (rq.card, rq.up) h))

  -- A note that every running card has relayed is handed to each.
  all_relayed : (q m : ℕ) → Runs (seen x).net q → ((r : ℕ) → Runs (seen x).net r → has (set_in x.spread.relayed r) m ≡ true) → has (set_in x.handed q) m ≡ true
  all_relayed q m rq all =
      g.complete_handed q m rq.card rq.up
      (record {
        relayed = all q rq;
        counted = λ r l s. ⊎_elim
            (λ down. absurd (both_ways _ s (quiet.known q r rq l down)))
            (λ up. let rr : Runs (seen x).net r = record { card = l; up = up } in has_counted r q m rr rq (all r rr))
            (cases_Bool (crashed_in x.spread.cards r));
      })

  pub quiet_agrees : UniformAgreement (seen x)
  quiet_agrees p q m h rq = all_relayed q m rq (λ r rr. g.whole.counted_relayed p r m (g.whole.handed_counted p r m rr.card rr.up h))

  quiet_full : (p q m : ℕ) → Runs (seen x).net p → Runs (seen x).net q → has (set_in x.spread.relayed p) m ≡ true → has (set_in x.handed q) m ≡ true
  quiet_full p q m rp rq h = all_relayed q m rq (λ r rr. g.whole.counter_relayed r p m (has_counted p r m rp rr h))

pub lawful : (x : AllAckState) → MadeAllAck x → Lawful (seen x)
lawful x g =
    let s = g.whole.below.whole in
    record {
      net = lawful_spread_net x.spread s;
      posters_are_cards = s.posters_cards;
      posted_notes_below_32 = λ m h. posted_below x.spread.posters 32 m s.notes h;
      only_posted_notes_handed = λ p m h. s.relayed_posted p m (g.whole.handed_relayed p m h);
      sets_fit_32_bits = g.whole.fits;
      no_card_no_set = g.whole.outside;
      quiet_sets_equal = λ quiet p q rp rq. same_sets _ _ (λ m. one_truth _ _ (λ h. quiet_agrees x g quiet p q m h rq) (λ h. quiet_agrees x g quiet q p m h rp));
      quiet_sets_full = λ quiet p q m rp rq e. quiet_full x g quiet p q m rp rq (g.whole.below.poster_relayed m p e);
    }

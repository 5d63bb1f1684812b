-- Each call of relay, from what it makes of the state to what the interface says of it.
use Rattle.std.specs.Prelude.{◌≡◌, ℕ, ◌<◌, true, false, length, Some, None, refl, Ok}
use Rattle.std.proofs.Common.{sym, ap, ◌∙◌, ⊎_elim, arith}
use Rattle.std.specs.Cmp.Derive.{one_truth}
use borrow.Author.Tests.{clash}
use Rattle.std.specs.List.{slice_get, list_any}
use Rattle.std.proofs.lemmas.Bool.{or_cases, or_left, both_ways}
use Rattle.notes.specs.Sets.{has}
use Rattle.notes.proofs.Bits.{same_sets}
use Rattle.parts.specs.Views.{Runs, Quiet}
use Rattle.parts.specs.Refusals.{post_answer, carry_answer, lose_answer, crash_answer, suspect_answer}
use Rattle.parts.specs.Broadcasting.{Started, HandedMore, Posted, Carried, Lost, Crashed, Suspected, Lawful}
use Rattle.parts.proofs.Accepted.{post_accepted, crash_accepted, suspect_accepted}
use Rattle.cards.specs.Cards.{crashed_in}
use Rattle.tables.specs.Tables.{set_in}
use Rattle.wire.specs.declared.Item.{Item}
use Rattle.wire.proofs.Wires.{nothing_left}
use Rattle.tables.proofs.Changes.{posted_below}
use Rattle.parts.proofs.Lists.{get_or-set, same_all}
use Rattle.cards.proofs.Nets.{same_cards}
use Rattle.wire.proofs.Taken.{carried_item, lost_item}
use Rattle.spread.specs.Spread.{SpreadState, spread_work, new_spread, meet_on, posted_by, post_on, without_item, carry_on, crash_on, suspect_on}
use Rattle.spread.specs.Made.{brings, SoundSpread, MadeSpread}
use Rattle.spread.proofs.Keeps as keeps
use Rattle.spread.proofs.Nets.{new_spread_net, post_net, receive_net, lose_net, crash_net, suspect_net, lawful_spread_net, meet_others_stay}
use Rattle.relay.specs.Relay.{seen}

pub new_means : (n : ℕ) → Started n (seen (new_spread n))
new_means n = record { net = new_spread_net n; nothing_posted = λ m. same_all 32 m None; nothing_handed = λ p. same_all 6 p 0 }

-- A card that meets a note is handed it.
meet_hands : (x y : SpreadState) (p m : ℕ) → SoundSpread x → x.relayed ≡ y.relayed → y.cards ≡ x.cards → p < x.cards.count → crashed_in x.cards p ≡ false → m < 32 → HandedMore (seen y) (seen (meet_on x p m))
meet_hands x y p m g e same l up j =
    record {
      nothing_taken_out = λ q k h. keeps.meet_relays x p m q k g l j ∙ or_left _ _ (ap (λ t. has (set_in t q) k) e ∙ h);
      crashed_sets_stay = λ q h. meet_others_stay x p m q (λ z. both_ways _ (ap (λ c. crashed_in c q) same ∙ ap (crashed_in x.cards) z ∙ up) h) ∙ ap (λ t. set_in t q) e;
    }

pub post_made : (x : SpreadState) (p m : ℕ) → MadeSpread x → post_answer (seen x) p m ≡ Ok tt → MadeSpread (post_on x p m)
post_made x p m g h = let f = post_accepted (seen x) p m h in keeps.post_made x p m g f.0 f.1 f.2

pub post_means : (x : SpreadState) (p m : ℕ) → MadeSpread x → post_answer (seen x) p m ≡ Ok tt → Posted 30 (seen x) (seen (post_on x p m)) p m
post_means x p m g h =
    let f = post_accepted (seen x) p m h in
    record {
      same_cards = same_cards x.cards _ _ _ _;
      work_rises_by_bound = post_net x p m g.whole f.0 f.1 f.2;
      post_stands = λ j. get_or-set x.posters m j (Some p) None (omega (arith, g.whole.notes, f.2));
      handed_more = meet_hands (posted_by x p m) x p m (keeps.posted_sound x p m g.whole f.0 f.2) refl refl f.0 f.1 f.2;
    }

pub carry_made : (x : SpreadState) (i : ℕ) → MadeSpread x → carry_answer (seen x).net i ≡ Ok tt → MadeSpread (carry_on x i)
carry_made x i g h = let t = carried_item x.cards x.wire (spread_work x) i h in rw t.1 (keeps.receive_made x i t.0 g t.1)

receive_means : (x : SpreadState) (i : ℕ) (y : Item ℕ) → SoundSpread x → slice_get x.wire i ≡ Some y → i < length x.wire → Carried (seen x) (seen (meet_on (without_item x i) y.to y.load))
receive_means x i y g e l =
    let u = keeps.item_at x i y g e in
    record {
      net = receive_net x i y g e l;
      posters_stay = λ j. refl;
      handed_more = meet_hands (without_item x i) x y.to y.load (keeps.removed_sound x i g) refl refl u.card u.up (posted_below x.posters 32 y.load g.notes u.posted);
    }

pub carry_means : (x : SpreadState) (i : ℕ) → MadeSpread x → carry_answer (seen x).net i ≡ Ok tt → Carried (seen x) (seen (carry_on x i))
carry_means x i g h =
    let t = carried_item x.cards x.wire (spread_work x) i h in
    rw t.1 (receive_means x i t.0 g.whole t.1 t.2)

pub lose_made : (x : SpreadState) (i : ℕ) → MadeSpread x → lose_answer (seen x).net i ≡ Ok tt → MadeSpread (without_item x i)
lose_made x i g h = let t = lost_item x.cards x.wire (spread_work x) i h in keeps.lose_made x i t.0 g t.1 t.3

pub lose_means : (x : SpreadState) (i : ℕ) → MadeSpread x → lose_answer (seen x).net i ≡ Ok tt → Lost (seen x) (seen (without_item x i)) i
lose_means x i g h =
    record { net = lose_net x i (lost_item x.cards x.wire (spread_work x) i h).2; posters_stay = λ j. refl; sets_stay = λ p. refl }

pub crash_made : (x : SpreadState) (p : ℕ) → MadeSpread x → crash_answer (seen x).net p ≡ Ok tt → MadeSpread (crash_on x p)
crash_made x p g h = keeps.crash_made x p g (crash_accepted (seen x).net p h).0

pub crash_means : (x : SpreadState) (p : ℕ) → MadeSpread x → crash_answer (seen x).net p ≡ Ok tt → Crashed (seen x) (seen (crash_on x p)) p
crash_means x p g h = record { net = crash_net x p g.whole (crash_accepted (seen x).net p h).0; posters_stay = λ j. refl; sets_stay = λ q. refl }

pub suspect_made : (x : SpreadState) (q p : ℕ) → MadeSpread x → suspect_answer (seen x).net q p ≡ Ok tt → MadeSpread (suspect_on x q p)
suspect_made x q p g h = let f = suspect_accepted (seen x).net q p h in keeps.suspect_made x q p g f.0 f.1 f.3

pub suspect_means : (x : SpreadState) (q p : ℕ) → MadeSpread x → suspect_answer (seen x).net q p ≡ Ok tt → Suspected (seen x) (seen (suspect_on x q p)) q p
suspect_means x q p g h =
    let f = suspect_accepted (seen x).net q p h in
    record { net = suspect_net x q p g.whole f.0 f.1; posters_stay = λ j. refl; handed_more = record { nothing_taken_out = λ r m e. e; crashed_sets_stay = λ r e. refl } }

-- At rest.

-- What a running card of a quiet relay was handed, every running one was.
spread_all : (x : SpreadState) → MadeSpread x → Quiet (seen x).net → (p q m : ℕ) → Runs (seen x).net p → Runs (seen x).net q → has (set_in x.relayed p) m ≡ true → has (set_in x.relayed q) m ≡ true
spread_all x g quiet p q m rp rq h =
    ⊎_elim (λ a. a) (λ b. absurd (clash (ap (list_any (brings p q m)) (sym (nothing_left x.wire quiet.empty)) ∙ b))) (or_cases _ _ (g.due p q m (rp.card, rp.up) (rq.card, rq.up) h))

pub lawful : (x : SpreadState) → MadeSpread x → Lawful (seen x)
lawful x g =
    record {
      net = lawful_spread_net x g.whole;
      posters_are_cards = g.whole.posters_cards;
      posted_notes_below_32 = λ m h. posted_below x.posters 32 m g.whole.notes h;
      only_posted_notes_handed = g.whole.relayed_posted;
      sets_fit_32_bits = g.whole.fits;
      no_card_no_set = g.whole.outside;
      quiet_sets_equal = λ quiet p q rp rq. same_sets _ _ (λ m. one_truth _ _ (spread_all x g quiet p q m rp rq) (spread_all x g quiet q p m rq rp));
      quiet_sets_full = λ quiet p q m rp rq e. spread_all x g quiet p q m rp rq (g.poster_relayed m p e);
    }

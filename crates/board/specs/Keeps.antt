-- `new` and the calls make boards that hold together.
use Rattle.std.specs.Prelude.{◌≡◌, ℕ, ◌<◌, true, ◌||◌, List, length, is_some, Some, None, ◌≢◌, slice_set, refl, Ok}
use Rattle.std.proofs.Common.{sym, ap, subst, ◌∙◌, ⊎_elim, arith, length-set}
use borrow.Author.Tests.{clash}
use Rattle.std.specs.List.{slice_get, remove, list_any}
use Rattle.std.proofs.ByRecursion.{All-append, All-weaker}
use Rattle.std.proofs.lemmas.List.Folds.{list_any-append}
use Rattle.std.proofs.Math.Bool.{or_assoc}
use Rattle.std.proofs.lemmas.Bool.{or_cases, or_left, or_right, and_parts, and_from, eqb-true, eqb-false, eq-eqb, ne_eqb, not-true, not_from_false}
use Rattle.std.proofs.lemmas.Bool.Decides.{nat_tests}
use Rattle.notes.specs.Sets.{has}
use Rattle.notes.proofs.Bits.{has_none}
use Rattle.parts.specs.Refusals.{post_answer, carry_answer, lose_answer, crash_answer, suspect_answer}
use Rattle.parts.proofs.Accepted.{post_accepted, lose_accepted, crash_accepted, suspect_accepted}
use Rattle.cards.specs.Cards.{crashed_in, with_crash}
use Rattle.tables.specs.Tables.{poster_in, set_in, with_note}
use Rattle.wire.specs.Wires.{sent, elsewhere}
use Rattle.wire.specs.declared.Item.{Item}
use Rattle.wire.proofs.Items.{all_removed, all_nth, all_left, all_sent_are, any_split, any_left, any_sent}
use Rattle.parts.proofs.Lists.{same_all}
use Rattle.cards.proofs.Nets.{new_sound, crash_sound, crash_more, suspect_sound, up_before}
use Rattle.wire.proofs.Taken.{carried_item}
use Rattle.board.specs.Board.{BoardState, seen, new_board, post_on, carry_on, crash_on, suspect_on}
use Rattle.board.specs.Made.{Underway, brings, MadeBoard}
use Rattle.tables.proofs.Changes.{posted_more, posted_below, poster_each, noted_others_stay, noted_fits}
use Rattle.board.specs.Changes.{goes_to_running, handed_more, carrier_sends}

pub new_made : (n : ℕ) → MadeBoard (new_board n)
new_made n =
    record {
      sound = new_sound n;
      notes = refl;
      sets = refl;
      posters_cards = λ m p h. absurd (clash (ap is_some (sym (same_all 32 m None) ∙ h)));
      items = tt;
      handed_posted = λ p m h. absurd (clash (sym (ap (λ s. has s m) (same_all 6 p 0) ∙ has_none m) ∙ h));
      outside = λ p h. same_all 6 p 0;
      fits = λ p. let z : set_in (new_board n).handed p ≡ 0 = same_all 6 p 0 in omega arith;
      due = λ p m h u e. absurd (clash (sym (ap is_some (same_all 32 m None)) ∙ e));
    }

-- A post.

pub post_made : (x : BoardState) (p m : ℕ) → MadeBoard x → post_answer (seen x) p m ≡ Ok tt → MadeBoard (post_on x p m)
post_made x p m g h =
    let f = post_accepted (seen x) p m h in
    let c = x.cards in
    let w : m < length x.posters = omega (arith, g.notes, f.2) in
    let new : is_some (poster_in (slice_set x.posters m (Some p)) m) ≡ true = posted_more x.posters m p m w ∙ or_left _ _ (eq-eqb m m refl) in
    let old : (k : ℕ) → is_some (poster_in x.posters k) ≡ true → is_some (poster_in (slice_set x.posters m (Some p)) k) ≡ true = λ k e. posted_more x.posters m p k w ∙ or_right _ _ e in
    let more : List (Item ℕ) = sent c 7 m c.count in
    record {
      sound = g.sound;
      notes = simp length-set g.notes;
      sets = g.sets;
      posters_cards = poster_each (λ j q. q < c.count) x.posters m p w f.0 g.posters_cards;
      items = All-append (Underway c (slice_set x.posters m (Some p))) x.wire more
          (All-weaker (Underway c x.posters) (Underway c (slice_set x.posters m (Some p))) (λ y u. record { carrier = u.carrier; card = u.card; up = u.up; posted = old y.load u.posted }) x.wire g.items)
          (all_sent_are (Underway c (slice_set x.posters m (Some p))) c 7 m c.count (λ to l t. record { carrier = refl; card = l; up = not-true _ (and_parts _ _ t).0; posted = new }));
      handed_posted = λ q k e. old k (g.handed_posted q k e);
      outside = g.outside;
      fits = g.fits;
      due = λ q k l u e.
          ap (λ b. has (set_in x.handed q) k || b) (list_any-append (brings k q) x.wire more)
          ∙ ⊎_elim
          (λ s. let y : list_any (brings k q) more ≡ true = any_sent (brings k q) c 7 m c.count q l (goes_to_running c q g.sound.few l u) (and_from _ _ (eq-eqb m k (sym (eqb-true k m s))) (eq-eqb q q refl)) in grind (arith, nat_tests))
          (λ s. let d = g.due q k l u s in grind (arith, nat_tests))
          (or_cases _ _ (sym (posted_more x.posters m p k w) ∙ e));
    }

-- A carry.

hand_out_made : (x : BoardState) (i : ℕ) (y : Item ℕ) → MadeBoard x → slice_get x.wire i ≡ Some y → MadeBoard (record { cards = x.cards; posters = x.posters; handed = with_note x.handed y.to y.load; wire = remove x.wire i })
hand_out_made x i y g e =
    let u = all_nth (Underway x.cards x.posters) x.wire i y g.items e in
    let s : y.to < length x.handed = omega (arith, u.card, g.sets, g.sound.few) in
    let l : y.load < 32 = posted_below x.posters 32 y.load g.notes u.posted in
    record {
      sound = g.sound;
      notes = g.notes;
      sets = simp length-set g.sets;
      posters_cards = g.posters_cards;
      items = all_removed (Underway x.cards x.posters) x.wire i g.items;
      handed_posted = λ p m h. ⊎_elim (λ a. g.handed_posted p m a) (λ a. subst (λ z. is_some (poster_in x.posters z) ≡ true) (eqb-true _ _ (and_parts _ _ a).0) u.posted) (or_cases _ _ (sym (handed_more x.handed y p m s l) ∙ h));
      outside = λ p h. noted_others_stay x.handed y.to y.load p (λ q. omega (arith, u.card)) ∙ g.outside p h;
      fits = λ p. noted_fits x.handed y.to y.load p s g.fits;
      due = λ p m h v d.
          ap (λ b. b || list_any (brings m p) (remove x.wire i)) (handed_more x.handed y p m s l)
          ∙ or_assoc (has (set_in x.handed p) m) (brings m p y) (list_any (brings m p) (remove x.wire i))
          ∙ ap (λ b. has (set_in x.handed p) m || b) (sym (any_split (brings m p) x.wire i y e))
          ∙ g.due p m h v d;
    }

pub carry_made : (x : BoardState) (i : ℕ) → MadeBoard x → carry_answer (seen x).net i ≡ Ok tt → MadeBoard (carry_on x i)
carry_made x i g h =
    let t = carried_item x.cards x.wire (length x.wire) i h in
    rw t.1 (hand_out_made x i t.0 g t.1)

-- A loss, a crash, a suspicion.

-- Every item is the carrier's own, and the carrier is no card: none is lost.
pub none_lost : (x : BoardState) (i : ℕ) → MadeBoard x → lose_answer (seen x).net i ≢ Ok tt
none_lost x i g h =
    let s = carrier_sends x.wire i (All-weaker (Underway x.cards x.posters) (λ y. y.from ≡ 7) (λ y u. u.carrier) x.wire g.items) in
    let d = g.sound.crashed_cards 7 (subst (λ j. crashed_in x.cards j ≡ true) s (lose_accepted (seen x).net i h).1) in
    omega (arith, g.sound.few)

pub crash_made : (x : BoardState) (p : ℕ) → MadeBoard x → crash_answer (seen x).net p ≡ Ok tt → MadeBoard (crash_on x p)
crash_made x p g h =
    let f = crash_accepted (seen x).net p h in
    let c = x.cards in
    record {
      sound = crash_sound c p g.sound f.0;
      notes = g.notes;
      sets = g.sets;
      posters_cards = g.posters_cards;
      items = all_left (Underway c x.posters) (Underway (with_crash c p) x.posters) (elsewhere p) x.wire
          (λ y u k. record { carrier = u.carrier; card = u.card; up = crash_more c p y.to g.sound f.0 ∙ ap (λ b. b || crashed_in c y.to) (not-true _ k) ∙ u.up; posted = u.posted }) g.items;
      handed_posted = g.handed_posted;
      outside = g.outside;
      fits = g.fits;
      due = λ q m l u e.
          let v = up_before c p q g.sound f.0 u in
          ⊎_elim
          (λ d. or_left _ _ d)
          (λ d. or_right _ _ (any_left (brings m q) (elsewhere p) x.wire (λ y b. not_from_false _ (ne_eqb y.to p (λ z. eqb-false q p v.0 (sym (eqb-true _ _ (and_parts _ _ b).1) ∙ z)))) d))
          (or_cases _ _ (g.due q m l v.1 e));
    }

pub suspect_made : (x : BoardState) (q p : ℕ) → MadeBoard x → suspect_answer (seen x).net q p ≡ Ok tt → MadeBoard (suspect_on x q p)
suspect_made x q p g h =
    let f = suspect_accepted (seen x).net q p h in
    record {
      sound = suspect_sound x.cards q p g.sound f.0 f.1 f.3;
      notes = g.notes;
      sets = g.sets;
      posters_cards = g.posters_cards;
      items = All-weaker (Underway x.cards x.posters) (Underway (suspect_on x q p).cards x.posters) (λ y u. record { carrier = u.carrier; card = u.card; up = u.up; posted = u.posted }) x.wire g.items;
      handed_posted = g.handed_posted;
      outside = g.outside;
      fits = g.fits;
      due = g.due;
    }

-- `new` and the calls make spreads that hold together.
use Rattle.std.proofs.Common.{◌≡◌, ℕ, ◌<◌, Bool, true, false, ◌&&◌, ◌||◌, eqb, length, set, is_some, Some, None, sym, refl, ap, ◌∙◌, subst, ⊎_elim, arith, length-set}
use borrow.Author.Tests.{clash}
use Rattle.std.specs.List.{slice_get, remove, list_any}
use Rattle.std.proofs.ByRecursion.{All-append, All-weaker}
use Rattle.std.proofs.lemmas.List.Folds.{list_any-append}
use Rattle.std.proofs.lemmas.Bool.{or_cases, or_left, or_right, and_parts, and_from, eqb-true, eqb-false, eq-eqb, ne_eqb, not-true, not_from_false, cases_Bool}
use Rattle.std.proofs.lemmas.Bool.Decides.{nat_tests}
use Rattle.notes.specs.Sets.{has}
use Rattle.notes.proofs.Bits.{has_none}
use Rattle.cards.specs.Cards.{crashed_in, Running}
use Rattle.tables.specs.Tables.{poster_in, set_in}
use Rattle.wire.specs.Wires.{sent, elsewhere}
use Rattle.wire.specs.declared.Item.{Item}
use Rattle.tables.proofs.Changes.{posted_more, posted_below, poster_each, noted_more, noted_others_stay, noted_fits}
use Rattle.wire.proofs.Items.{all_removed, all_nth, all_left, all_sent_are, any_split, any_left, any_sent}
use Rattle.parts.proofs.Lists.{same_all}
use Rattle.cards.proofs.Nets.{new_sound, crash_sound, crash_more, suspect_sound, up_before}
use Rattle.spread.specs.Spread.{SpreadState, lacks, new_spread, relay_on, meet_on, posted_by, post_on, without_item, crash_on, suspect_on}
use Rattle.spread.specs.Made.{Underway, brings, SoundSpread, Delivers, relayed_to, MadeSpread}
use Rattle.spread.proofs.Rooms.{lacks_parts, lacks_not, meet_cases}

pub new_made : (n : ℕ) → MadeSpread (new_spread n)
new_made n =
    let none : (p m : ℕ) → has (set_in (new_spread n).relayed p) m ≡ true → ⊥ = λ p m h. clash (sym (ap (λ s. has s m) (same_all 6 p 0) ∙ has_none m) ∙ h) in
    let nobody : (m p : ℕ) → poster_in (new_spread n).posters m ≡ Some p → ⊥ = λ m p h. clash (ap is_some (sym (same_all 32 m None) ∙ h)) in
    record {
      whole = record {
        sound = new_sound n;
        notes = refl;
        sets = refl;
        posters_cards = λ m p h. absurd (nobody m p h);
        items = tt;
        relayed_posted = λ p m h. absurd (none p m h);
        outside = λ p h. same_all 6 p 0;
        fits = λ p. let z : set_in (new_spread n).relayed p ≡ 0 = same_all 6 p 0 in omega arith;
      };
      poster_relayed = λ m p h. absurd (nobody m p h);
      due = λ p q m _ _ h. absurd (none p m h);
    }

-- A card meets a note.

relay_sound : (x : SpreadState) (p m : ℕ) → SoundSpread x → Running x.cards p → is_some (poster_in x.posters m) ≡ true → lacks x p m ≡ true → SoundSpread (relay_on x p m)
relay_sound x p m g r posted h =
    let l = lacks_parts x p m h in
    let s : p < length x.relayed = omega (arith, r.0, g.sets, g.sound.few) in
    let c = x.cards in
    let more : (q k : ℕ) → _ = λ q k. noted_more x.relayed p m q k s l.1 in
    record {
      sound = g.sound;
      notes = g.notes;
      sets = simp length-set g.sets;
      posters_cards = g.posters_cards;
      items = All-append (Underway (relay_on x p m)) x.wire (sent c p m c.count)
          (All-weaker (Underway x) (Underway (relay_on x p m)) (λ y u. record { sender = u.sender; card = u.card; up = u.up; posted = u.posted; by_relayer = more y.from y.load ∙ or_left _ _ u.by_relayer }) x.wire g.items)
          (all_sent_are (Underway (relay_on x p m)) c p m c.count (λ to b t. record { sender = r.0; card = b; up = not-true _ (and_parts _ _ t).0; posted = posted; by_relayer = more p m ∙ or_right _ _ (and_from _ _ (eq-eqb p p refl) (eq-eqb m m refl)) }));
      relayed_posted = λ q k e. ⊎_elim (g.relayed_posted q k) (λ a. subst (λ z. is_some (poster_in x.posters z) ≡ true) (sym (eqb-true _ _ (and_parts _ _ a).1)) posted) (or_cases _ _ (sym (more q k) ∙ e));
      outside = λ q e. noted_others_stay x.relayed p m q (λ z. omega (arith, r.0)) ∙ g.outside q e;
      fits = λ q. noted_fits x.relayed p m q s g.fits;
    }

meet_sound : (x : SpreadState) (p m : ℕ) → SoundSpread x → Running x.cards p → is_some (poster_in x.posters m) ≡ true → SoundSpread (meet_on x p m)
meet_sound x p m g r posted = meet_cases SoundSpread x p m (relay_sound x p m g r posted) (λ _. g)

covered : (a b : Bool) → (b ≡ true → a ≡ true) → a ≡ (a || b)
covered true b f = refl
covered false true f = f refl
covered false false f = refl

-- Afterwards it has relayed it.
pub meet_relays : (x : SpreadState) (p m q k : ℕ) → SoundSpread x → p < x.cards.count → m < 32 → has (set_in (meet_on x p m).relayed q) k ≡ (has (set_in x.relayed q) k || (eqb q p && eqb k m))
meet_relays x p m q k g l j =
    meet_cases (λ z. has (set_in z.relayed q) k ≡ (has (set_in x.relayed q) k || (eqb q p && eqb k m))) x p m
    (λ h. noted_more x.relayed p m q k (omega (arith, g.sets, g.sound.few)) j)
    (λ h. covered _ _ (λ e. let b = and_parts _ _ e in rw (eqb-true q p b.0, eqb-true k m b.1) (lacks_not x p m l j h)))

-- What is due stays so.

module _ (got : ℕ → ℕ → ℕ → Bool) (x : SpreadState) where
  relay_delivers : (p m : ℕ) → SoundSpread x → Running x.cards p → got p p m ≡ true → Delivers got x → lacks x p m ≡ true → Delivers got (relay_on x p m)
  relay_delivers p m g r own d h a b k ra rb e =
      let l = lacks_parts x p m h in
      let old = list_any-append (brings a b k) x.wire (sent x.cards p m x.cards.count) in
      ⊎_elim
      (λ t. let due = d a b k ra rb t in grind (arith, nat_tests, old, due))
      (λ t. let s = and_parts _ _ t in
      let ea = eqb-true a p s.0 in
      let ek = eqb-true k m s.1 in
      ⊎_elim
      (λ z. let o : got a b k ≡ true = rw (ea, ek, eqb-true b p z) own in or_left _ _ o)
      (λ z. or_right _ _ (old ∙ or_right _ _ (any_sent (brings a b k) x.cards p m x.cards.count b rb.0
      (and_from _ _ (not_from_false _ rb.1) (not_from_false _ z))
      (and_from _ _ (eq-eqb p a (sym ea)) (and_from _ _ (eq-eqb b b refl) (eq-eqb m k (sym ek)))))))
      (cases_Bool (eqb b p)))
      (or_cases _ _ (sym (noted_more x.relayed p m a k (omega (arith, r.0, g.sets, g.sound.few)) l.1) ∙ e))

  pub meet_delivers : (p m : ℕ) → SoundSpread x → Running x.cards p → got p p m ≡ true → Delivers got x → Delivers got (meet_on x p m)
  meet_delivers p m g r own d = meet_cases (Delivers got) x p m (relay_delivers p m g r own d) (λ _. d)

  pub more_delivers : (more : ℕ → ℕ → ℕ → Bool) → ((p q m : ℕ) → got p q m ≡ true → more p q m ≡ true) → Delivers got x → Delivers more x
  more_delivers more still d a b k ra rb h =
      ⊎_elim (λ t. or_left (more a b k) (list_any (brings a b k) x.wire) (still a b k t)) (λ t. or_right (more a b k) (list_any (brings a b k) x.wire) t) (or_cases (got a b k) (list_any (brings a b k) x.wire) (d a b k ra rb h))

  -- An item that is carried has got there.
  pub taken_delivers : (more : ℕ → ℕ → ℕ → Bool) (i : ℕ) (y : Item ℕ) → slice_get x.wire i ≡ Some y → ((p q m : ℕ) → got p q m ≡ true → more p q m ≡ true) → more y.from y.to y.load ≡ true → Delivers got x → Delivers more (without_item x i)
  taken_delivers more i y e still there d a b k ra rb h =
      ⊎_elim
      (λ t. or_left _ _ (still a b k t))
      (λ t. ⊎_elim
      (λ z. let s = and_parts (eqb y.from a) _ z in let q = and_parts (eqb y.to b) (eqb y.load k) s.1 in
      let o : more a b k ≡ true = rw (sym (eqb-true _ _ s.0), sym (eqb-true _ _ q.0), sym (eqb-true _ _ q.1)) there in or_left _ _ o)
      (λ z. or_right _ _ z)
      (or_cases _ _ (sym (any_split (brings a b k) x.wire i y e) ∙ t)))
      (or_cases _ _ (d a b k ra rb h))

  -- An item of a crashed card may be lost.
  pub lost_delivers : (i : ℕ) (y : Item ℕ) → slice_get x.wire i ≡ Some y → crashed_in x.cards y.from ≡ true → Delivers got x → Delivers got (without_item x i)
  lost_delivers i y e down d a b k ra rb h =
      let due = d a b k ra rb h in
      let w = any_split (brings a b k) x.wire i y e in
      let other : brings a b k y ≡ true → ⊥ = λ t. clash (sym ra.1 ∙ ap (crashed_in x.cards) (sym (eqb-true _ _ (and_parts _ _ t).0)) ∙ down) in
      grind (arith, nat_tests, due, w, other)

  pub crash_delivers : (p : ℕ) → SoundSpread x → p < x.cards.count → Delivers got x → Delivers got (crash_on x p)
  crash_delivers p g l d a b k ra rb h =
      let va = up_before x.cards p a g.sound l ra.1 in
      let vb = up_before x.cards p b g.sound l rb.1 in
      ⊎_elim
      (λ t. or_left _ _ t)
      (λ t. or_right _ _ (any_left (brings a b k) (elsewhere p) x.wire (λ y z. not_from_false _ (ne_eqb y.to p (λ e. eqb-false b p vb.0 (sym (eqb-true _ _ (and_parts _ _ (and_parts _ _ z).1).0) ∙ e)))) t))
      (or_cases _ _ (d a b k (ra.0, va.1) (rb.0, vb.1) h))

-- A post.

pub posted_sound : (x : SpreadState) (p m : ℕ) → SoundSpread x → p < x.cards.count → m < 32 → SoundSpread (posted_by x p m)
posted_sound x p m g l j =
    let w : m < length x.posters = omega (arith, g.notes) in
    let old : (k : ℕ) → is_some (poster_in x.posters k) ≡ true → is_some (poster_in (set x.posters m (Some p)) k) ≡ true = λ k e. posted_more x.posters m p k w ∙ or_right _ _ e in
    record {
      sound = g.sound;
      notes = simp length-set g.notes;
      sets = g.sets;
      posters_cards = poster_each (λ k q. q < x.cards.count) x.posters m p w l g.posters_cards;
      items = All-weaker (Underway x) (Underway (posted_by x p m)) (λ y u. record { sender = u.sender; card = u.card; up = u.up; posted = old y.load u.posted; by_relayer = u.by_relayer }) x.wire g.items;
      relayed_posted = λ q k e. old k (g.relayed_posted q k e);
      outside = g.outside;
      fits = g.fits;
    }

pub post_made : (x : SpreadState) (p m : ℕ) → MadeSpread x → p < x.cards.count → crashed_in x.cards p ≡ false → m < 32 → MadeSpread (post_on x p m)
post_made x p m g l up j =
    let y = posted_by x p m in
    let w : m < length x.posters = omega (arith, g.whole.notes) in
    let s = posted_sound x p m g.whole l j in
    let more : (q k : ℕ) → _ = λ q k. meet_relays y p m q k s l j in
    let own : (has (set_in x.relayed p) m || (eqb p p && eqb m m)) ≡ true = or_right _ _ (and_from _ _ (eq-eqb p p refl) (eq-eqb m m refl)) in
    record {
      whole = meet_sound y p m s (l, up) (posted_more x.posters m p m w ∙ or_left _ _ (eq-eqb m m refl));
      poster_relayed = poster_each (λ k q. has (set_in (post_on x p m).relayed q) k ≡ true) x.posters m p w (more p m ∙ own) (λ k q e. more q k ∙ or_left _ _ (g.poster_relayed k q e));
      due = meet_delivers (relayed_to (post_on x p m)) y p m s (l, up) (more p m ∙ own)
          (more_delivers (relayed_to x) x (relayed_to (post_on x p m)) (λ _ q k h. more q k ∙ or_left _ _ h) g.due);
    }

-- A carry.

pub removed_sound : (x : SpreadState) (i : ℕ) → SoundSpread x → SoundSpread (without_item x i)
removed_sound x i g =
    record {
      sound = g.sound;
      notes = g.notes;
      sets = g.sets;
      posters_cards = g.posters_cards;
      items = All-weaker (Underway x) (Underway (without_item x i)) (λ y u. record { sender = u.sender; card = u.card; up = u.up; posted = u.posted; by_relayer = u.by_relayer }) (remove x.wire i) (all_removed (Underway x) x.wire i g.items);
      relayed_posted = g.relayed_posted;
      outside = g.outside;
      fits = g.fits;
    }

pub item_at : (x : SpreadState) (i : ℕ) (y : Item ℕ) → SoundSpread x → slice_get x.wire i ≡ Some y → Underway x y
item_at x i y g e = all_nth (Underway x) x.wire i y g.items e

pub receive_made : (x : SpreadState) (i : ℕ) (y : Item ℕ) → MadeSpread x → slice_get x.wire i ≡ Some y → MadeSpread (meet_on (without_item x i) y.to y.load)
receive_made x i y g e =
    let u = item_at x i y g.whole e in
    let z = without_item x i in
    let s = removed_sound x i g.whole in
    let j : y.load < 32 = posted_below x.posters 32 y.load g.whole.notes u.posted in
    let more : (q k : ℕ) → _ = λ q k. meet_relays z y.to y.load q k s u.card j in
    let own : (has (set_in x.relayed y.to) y.load || (eqb y.to y.to && eqb y.load y.load)) ≡ true = or_right _ _ (and_from _ _ (eq-eqb y.to y.to refl) (eq-eqb y.load y.load refl)) in
    let after = meet_on z y.to y.load in
    record {
      whole = meet_sound z y.to y.load s (u.card, u.up) u.posted;
      poster_relayed = λ m p h. more p m ∙ or_left _ _ (g.poster_relayed m p h);
      due = meet_delivers (relayed_to after) z y.to y.load s (u.card, u.up) (more y.to y.load ∙ own)
          (taken_delivers (relayed_to x) x (relayed_to after) i y e (λ _ q m h. more q m ∙ or_left _ _ h) (more y.to y.load ∙ own) g.due);
    }

-- A loss, a crash, a suspicion.

pub lose_made : (x : SpreadState) (i : ℕ) (y : Item ℕ) → MadeSpread x → slice_get x.wire i ≡ Some y → crashed_in x.cards y.from ≡ true → MadeSpread (without_item x i)
lose_made x i y g e down =
    record { whole = removed_sound x i g.whole; poster_relayed = g.poster_relayed; due = lost_delivers (relayed_to x) x i y e down g.due }

pub crash_made : (x : SpreadState) (p : ℕ) → MadeSpread x → p < x.cards.count → MadeSpread (crash_on x p)
crash_made x p g l =
    let c = x.cards in
    let s = g.whole in
    record {
      whole = record {
        sound = crash_sound c p s.sound l;
        notes = s.notes;
        sets = s.sets;
        posters_cards = s.posters_cards;
        items = all_left (Underway x) (Underway (crash_on x p)) (elsewhere p) x.wire
            (λ y u k. record { sender = u.sender; card = u.card; up = crash_more c p y.to s.sound l ∙ ap (λ b. b || crashed_in c y.to) (not-true _ k) ∙ u.up; posted = u.posted; by_relayer = u.by_relayer }) s.items;
        relayed_posted = s.relayed_posted;
        outside = s.outside;
        fits = s.fits;
      };
      poster_relayed = g.poster_relayed;
      due = crash_delivers (relayed_to x) x p s l g.due;
    }

pub suspect_made : (x : SpreadState) (q p : ℕ) → MadeSpread x → q < x.cards.count → p < x.cards.count → crashed_in x.cards p ≡ true → MadeSpread (suspect_on x q p)
suspect_made x q p g hq hp down =
    let s = g.whole in
    record {
      whole = record {
        sound = suspect_sound x.cards q p s.sound hq hp down;
        notes = s.notes;
        sets = s.sets;
        posters_cards = s.posters_cards;
        items = All-weaker (Underway x) (Underway (suspect_on x q p)) (λ y u. record { sender = u.sender; card = u.card; up = u.up; posted = u.posted; by_relayer = u.by_relayer }) x.wire s.items;
        relayed_posted = s.relayed_posted;
        outside = s.outside;
        fits = s.fits;
      };
      poster_relayed = g.poster_relayed;
      due = g.due;
    }

-- `new` and the calls make all-acks that hold together.
use Rattle.std.specs.Prelude.{◌≡◌, ℕ, ◌<◌, true, false, ◌&&◌, ◌||◌, List, replicate, Some, ◌==◌, ◌≢◌, refl}
use Rattle.std.proofs.Common.{sym, ap, subst, ◌∙◌, ⊎_elim, arith, length-set}
use borrow.Author.Tests.{clash}
use Rattle.std.specs.List.{slice_get}
use Rattle.std.proofs.lemmas.Bool.{both_ways, cases_Bool, cases_eq, or_cases, or_left, or_right, and_parts, and_from, and_left, eq-eqb, ne_eqb, eqb-true}
use Rattle.notes.specs.Sets.{has, added}
use Rattle.notes.proofs.Bits.{has_none}
use Rattle.cards.specs.Cards.{CardState, crashed_in, suspects_in, Running, SoundCards}
use Rattle.tables.specs.Tables.{set_in}
use Rattle.wire.specs.declared.Item.{Item}
use Rattle.tables.proofs.Changes.{posted_below, noted_all, noted_all_others_stay, noted_all_fits}
use Rattle.parts.proofs.Lists.{same_all, same_rows, new_row, rows_kept}
use Rattle.cards.proofs.Nets.{suspect_more, up_before}
use Rattle.spread.specs.Spread as spread
use Rattle.spread.specs.Spread.{SpreadState}
use Rattle.spread.specs.Made.{SoundSpread, Delivers, MadeSpread}
use Rattle.spread.proofs.Keeps as below
use Rattle.spread.proofs.Nets.{meet_others_stay}
use Rattle.allack.specs.Counts.{new_counts, counted_in, with_count}
use Rattle.allack.specs.AllAck.{AllAckState, new_all_ack, spread_to, count_on, complete, hand_on, post_on, counting, lose_on, crash_on, suspect_on}
use Rattle.allack.specs.Made.{SoundAllAck, Complete, counted_by, MadeAllAck}
use Rattle.allack.specs.Completes.{counted_more, counted_others_stay, complete_parts, complete_from, complete_fits}

pub new_made : (n : ℕ) → MadeAllAck (new_all_ack n)
new_made n =
    let unrelayed : (p m : ℕ) → has (set_in (new_all_ack n).spread.relayed p) m ≡ true → ⊥ = λ p m h. clash (sym (ap (λ s. has s m) (same_all 6 p 0) ∙ has_none m) ∙ h) in
    let uncounted : (p q m : ℕ) → has (counted_in new_counts p q) m ≡ true → ⊥ = λ p q m h. clash (sym (ap (λ s. has s m) (same_rows 6 6 p q 0) ∙ has_none m) ∙ h) in
    record {
      whole = record {
        below = below.new_made n;
        rows = refl;
        row = λ p h. new_row 6 p (replicate 6 0) h;
        sets = refl;
        counted_relayed = λ p q m h. absurd (uncounted p q m h);
        counter_relayed = λ p q m h. absurd (uncounted p q m h);
        handed_relayed = λ p m h. h;
        handed_counted = λ p q m _ _ h. absurd (unrelayed p m h);
        outside = λ p h. same_all 6 p 0;
        fits = λ p. let z : set_in (new_all_ack n).handed p ≡ 0 = same_all 6 p 0 in omega arith;
      };
      self_counted = λ p m h. absurd (unrelayed p m h);
      due = λ p q m _ _ h. absurd (unrelayed p m h);
      complete_handed = λ p m _ _ c. absurd (unrelayed p m c.relayed);
    }

-- The relays go on.
spread_sound : (x : AllAckState) (s : SpreadState) → SoundAllAck x → MadeSpread s → s.cards.count ≡ x.spread.cards.count
    → ((p m : ℕ) → has (set_in x.spread.relayed p) m ≡ true → has (set_in s.relayed p) m ≡ true)
    → ((p : ℕ) → crashed_in s.cards p ≡ false → crashed_in x.spread.cards p ≡ false) → SoundAllAck (spread_to x s)
spread_sound x s g made same more up =
    record {
      below = made;
      rows = g.rows;
      row = g.row;
      sets = g.sets;
      counted_relayed = λ p q m h. more q m (g.counted_relayed p q m h);
      counter_relayed = λ p q m h. more p m (g.counter_relayed p q m h);
      handed_relayed = λ p m h. more p m (g.handed_relayed p m h);
      handed_counted = λ p q m l u h. g.handed_counted p q m (omega arith) (up q u) h;
      outside = λ p h. g.outside p (omega arith);
      fits = g.fits;
    }

-- A card is counted.
module _ (x : AllAckState) (p q m : ℕ) (g : SoundAllAck x) (hp : p < x.spread.cards.count) (hq : q < x.spread.cards.count) (l : m < 32) where
  pub count_more : (a b k : ℕ) → has (counted_in (with_count x.counted p q m) a b) k ≡ (has (counted_in x.counted a b) k || ((a == p && b == q) && k == m))
  count_more a b k =
      let few = g.below.whole.sound.few in
      counted_more x.counted p q m a b k (omega (arith, g.rows)) (omega (arith, g.row p (omega arith))) l

  pub count_here : has (counted_in (with_count x.counted p q m) p q) m ≡ true
  count_here = count_more p q m ∙ or_right _ _ (and_from _ _ (and_from _ _ (eq-eqb p p refl) (eq-eqb q q refl)) (eq-eqb m m refl))

  pub count_still : (a b k : ℕ) → has (counted_in x.counted a b) k ≡ true → has (counted_in (with_count x.counted p q m) a b) k ≡ true
  count_still a b k h = count_more a b k ∙ or_left _ _ h

  pub count_sound : has (set_in x.spread.relayed p) m ≡ true → has (set_in x.spread.relayed q) m ≡ true → SoundAllAck (count_on x p q m)
  count_sound rp rq =
      record {
        below = g.below;
        rows = simp length-set g.rows;
        row = rows_kept x.counted 6 6 p q (added (counted_in x.counted p q) m) (omega (arith, g.rows, g.below.whole.sound.few)) g.row;
        sets = g.sets;
        counted_relayed = λ a b k h.
            ⊎_elim (g.counted_relayed a b k) (λ t. let s = and_parts _ _ t in let e = eqb-true b q (and_parts (a == p) (b == q) s.0).1 in let f = eqb-true k m s.1 in rw (e, f) rq) (or_cases _ _ (sym (count_more a b k) ∙ h));
        counter_relayed = λ a b k h.
            ⊎_elim (g.counter_relayed a b k) (λ t. let s = and_parts _ _ t in let e = eqb-true a p (and_parts (a == p) (b == q) s.0).0 in let f = eqb-true k m s.1 in rw (e, f) rp) (or_cases _ _ (sym (count_more a b k) ∙ h));
        handed_relayed = g.handed_relayed;
        handed_counted = λ a b k i u h. count_still a b k (g.handed_counted a b k i u h);
        outside = g.outside;
        fits = g.fits;
      }

-- A card is handed what it has completed.

not_suspected : (c : CardState) (p q : ℕ) → SoundCards c → crashed_in c q ≡ false → suspects_in c p q ≡ false
not_suspected c p q g u = ⊎_elim (λ t. absurd (both_ways _ u (g.suspected_crashed p q t))) (λ t. t) (cases_Bool (suspects_in c p q))

module _ (x : AllAckState) (p : ℕ) (g : SoundAllAck x) (r : Running x.spread.cards p) where
  hand_more : (q k : ℕ) → has (set_in (hand_on x p).handed q) k ≡ (has (set_in x.handed q) k || (q == p && has (complete x p x.spread.cards.count) k))
  hand_more q k = noted_all x.handed p (complete x p x.spread.cards.count) q k (omega (arith, g.sets, r.0, g.below.whole.sound.few))

  hand_sound : SoundAllAck (hand_on x p)
  hand_sound =
      let n = x.spread.cards.count in
      let made : (q k : ℕ) → (q == p && has (complete x p n) k) ≡ true → (q ≡ p) × (has (complete x p n) k ≡ true) = λ q k t. let s = and_parts _ _ t in (eqb-true q p s.0, s.1) in
      record {
        below = g.below;
        rows = g.rows;
        row = g.row;
        sets = simp length-set g.sets;
        counted_relayed = g.counted_relayed;
        counter_relayed = g.counter_relayed;
        handed_relayed = λ q k h. ⊎_elim (g.handed_relayed q k) (λ t. let s = made q k t in rw s.0 (complete_parts x p n k s.1).0) (or_cases _ _ (sym (hand_more q k) ∙ h));
        handed_counted = λ a b k l u h.
            ⊎_elim (g.handed_counted a b k l u) (λ t. let s = made a k t in rw s.0 ((complete_parts x p n k s.1).1 b l (not_suspected x.spread.cards p b g.below.whole.sound u))) (or_cases _ _ (sym (hand_more a k) ∙ h));
        outside = λ q h. noted_all_others_stay x.handed p (complete x p n) q (λ e. omega (arith, r.0)) ∙ g.outside q h;
        fits = λ q. noted_all_fits x.handed p (complete x p n) q (omega (arith, g.sets, r.0, g.below.whole.sound.few)) (complete_fits x p n (g.below.whole.fits p)) g.fits;
      }

hand_made : (x : AllAckState) (p : ℕ) → SoundAllAck x → Running x.spread.cards p → ((q m : ℕ) → has (set_in x.spread.relayed q) m ≡ true → has (counted_in x.counted q q) m ≡ true) → Delivers (counted_by x.counted) x.spread
    → ((q m : ℕ) → (q ≢ p) → Running x.spread.cards q → Complete x q m → has (set_in x.handed q) m ≡ true) → MadeAllAck (hand_on x p)
hand_made x p g r own d others =
    record {
      whole = hand_sound x p g r;
      self_counted = own;
      due = d;
      complete_handed = λ q k l u c.
          hand_more x p g r q k
          ∙ ⊎_elim
          (λ e. or_right _ _ (and_from _ _ (eq-eqb q p e) (complete_from x p x.spread.cards.count k (subst (λ j. has (set_in x.spread.relayed j) k ≡ true) e c.relayed) (λ b i s. subst (λ j. has (counted_in x.counted j b) k ≡ true) e (c.counted b i (subst (λ j. suspects_in x.spread.cards j b ≡ false) (sym e) s))))))
          (λ n. or_left _ _ (others q k n (l, u) (record { relayed = c.relayed; counted = c.counted })))
          (cases_eq q p);
    }

-- A card meets a note, and counts: what the counts then are is `counted`.
met_made : (x : AllAckState) (s : SpreadState) (p m : ℕ) (counted : List (List ℕ)) → MadeAllAck x → s.relayed ≡ x.spread.relayed → s.cards ≡ x.spread.cards
    → SoundSpread s → Running s.cards p → m < 32 → SoundAllAck (record { spread = spread.meet_on s p m; counted = counted; handed = x.handed })
    → ((a b k : ℕ) → has (counted_in x.counted a b) k ≡ true → has (counted_in counted a b) k ≡ true)
    → has (counted_in counted p p) m ≡ true
    → ((a b : ℕ) → (a ≢ p) → counted_in counted a b ≡ counted_in x.counted a b)
    → Delivers (counted_by counted) s
    → MadeAllAck (hand_on (record { spread = spread.meet_on s p m; counted = counted; handed = x.handed }) p)
met_made x s p m counted g relayed cards sound r l whole still here others d =
    let y : AllAckState = record { spread = spread.meet_on s p m; counted = counted; handed = x.handed } in
    hand_made y p whole r
    (λ q k h. ⊎_elim
    (λ t. still q q k (g.self_counted q k (subst (λ z. has (set_in z q) k ≡ true) relayed t)))
    (λ t. let b = and_parts _ _ t in rw (eqb-true q p b.0, eqb-true k m b.1) here)
    (or_cases _ _ (sym (below.meet_relays s p m q k sound r.0 l) ∙ h)))
    (below.meet_delivers (counted_by counted) s p m sound r here d)
    (λ q k n rq c. g.complete_handed q k (subst (λ z. q < z.count) cards rq.0) (subst (λ z. crashed_in z q ≡ false) cards rq.1)
    (record {
      relayed = subst (λ z. has (set_in z q) k ≡ true) relayed (subst (λ z. has z k ≡ true) (meet_others_stay s p m q n) c.relayed);
      counted = λ b i u. subst (λ z. has z k ≡ true) (others q b n) (c.counted b (subst (λ z. b < z.count) (sym cards) i) (subst (λ z. suspects_in z q b ≡ false) (sym cards) u));
    }))

pub post_made : (x : AllAckState) (p m : ℕ) → MadeAllAck x → p < x.spread.cards.count → crashed_in x.spread.cards p ≡ false → m < 32 → MadeAllAck (post_on x p m)
post_made x p m g l up j =
    let s = x.spread in
    let z = spread.posted_by s p m in
    let sound = below.posted_sound s p m g.whole.below.whole l j in
    let more : (q k : ℕ) → _ = λ q k. below.meet_relays z p m q k sound l j in
    let y = spread_to x (spread.post_on s p m) in
    let ys = spread_sound x (spread.post_on s p m) g.whole (below.post_made s p m g.whole.below l up j) refl (λ q k h. more q k ∙ or_left _ _ h) (λ q u. u) in
    let own = more p m ∙ or_right _ _ (and_from _ _ (eq-eqb p p refl) (eq-eqb m m refl)) in
    met_made x z p m (with_count x.counted p p m) g refl refl sound (l, up) j
    (count_sound y p p m ys l l j own own)
    (count_still y p p m ys l l j)
    (count_here y p p m ys l l j)
    (λ a b n. counted_others_stay x.counted p p m a b n)
    (below.more_delivers (counted_by x.counted) s (counted_by (with_count x.counted p p m)) (λ a b k h. count_still y p p m ys l l j b a k h) g.due)

pub receive_made : (x : AllAckState) (i : ℕ) (t : Item ℕ) → MadeAllAck x → slice_get x.spread.wire i ≡ Some t → MadeAllAck (counting (spread_to x (spread.meet_on (spread.without_item x.spread i) t.to t.load)) (Some t))
receive_made x i t g e =
    let s = x.spread in
    let u = below.item_at s i t g.whole.below.whole e in
    let z = spread.without_item s i in
    let p = t.to in
    let m = t.load in
    let sound = below.removed_sound s i g.whole.below.whole in
    let j : m < 32 = posted_below s.posters 32 m g.whole.below.whole.notes u.posted in
    let more : (q k : ℕ) → _ = λ q k. below.meet_relays z p m q k sound u.card j in
    let y = spread_to x (spread.meet_on z p m) in
    let ys = spread_sound x (spread.meet_on z p m) g.whole (below.receive_made s i t g.whole.below e) refl (λ q k h. more q k ∙ or_left _ _ h) (λ q v. v) in
    let own = more p m ∙ or_right _ _ (and_from _ _ (eq-eqb p p refl) (eq-eqb m m refl)) in
    let w = count_on y p p m in
    let ws = count_sound y p p m ys u.card u.card j own own in
    let counted = with_count (with_count x.counted p p m) p t.from m in
    let still : (a b k : ℕ) → has (counted_in x.counted a b) k ≡ true → has (counted_in counted a b) k ≡ true = λ a b k h. count_still w p t.from m ws u.card u.sender j a b k (count_still y p p m ys u.card u.card j a b k h) in
    met_made x z p m counted g refl refl sound (u.card, u.up) j
    (count_sound w p t.from m ws u.card u.sender j own (more t.from m ∙ or_left _ _ u.by_relayer))
    still
    (count_still w p t.from m ws u.card u.sender j p p m (count_here y p p m ys u.card u.card j))
    (λ a b n. counted_others_stay (with_count x.counted p p m) p t.from m a b n ∙ counted_others_stay x.counted p p m a b n)
    (below.taken_delivers (counted_by x.counted) s (counted_by counted) i t e (λ a b k h. still b a k h) (count_here w p t.from m ws u.card u.sender j) g.due)

-- A loss, a crash, a suspicion.

pub lose_made : (x : AllAckState) (i : ℕ) (t : Item ℕ) → MadeAllAck x → slice_get x.spread.wire i ≡ Some t → crashed_in x.spread.cards t.from ≡ true → MadeAllAck (lose_on x i)
lose_made x i t g e down =
    let s = spread.without_item x.spread i in
    record {
      whole = spread_sound x s g.whole (below.lose_made x.spread i t g.whole.below e down) refl (λ p m h. h) (λ p u. u);
      self_counted = g.self_counted;
      due = below.lost_delivers (counted_by x.counted) x.spread i t e down g.due;
      complete_handed = λ p m l u c. g.complete_handed p m l u (record { relayed = c.relayed; counted = c.counted });
    }

pub crash_made : (x : AllAckState) (p : ℕ) → MadeAllAck x → p < x.spread.cards.count → MadeAllAck (crash_on x p)
crash_made x p g l =
    let c = x.spread.cards in
    let sound = g.whole.below.whole.sound in
    let up : (q : ℕ) → crashed_in (spread.crash_on x.spread p).cards q ≡ false → crashed_in c q ≡ false = λ q u. (up_before c p q sound l u).1 in
    record {
      whole = spread_sound x (spread.crash_on x.spread p) g.whole (below.crash_made x.spread p g.whole.below l) refl (λ q m h. h) up;
      self_counted = g.self_counted;
      due = below.crash_delivers (counted_by x.counted) x.spread p g.whole.below.whole l g.due;
      complete_handed = λ q m i u k. g.complete_handed q m i (up q u) (record { relayed = k.relayed; counted = k.counted });
    }

pub suspect_made : (x : AllAckState) (q p : ℕ) → MadeAllAck x → q < x.spread.cards.count → p < x.spread.cards.count → crashed_in x.spread.cards q ≡ false → crashed_in x.spread.cards p ≡ true → MadeAllAck (suspect_on x q p)
suspect_made x q p g hq hp up down =
    let s = spread.suspect_on x.spread q p in
    hand_made (spread_to x s) q
    (spread_sound x s g.whole (below.suspect_made x.spread q p g.whole.below hq hp down) refl (λ a m h. h) (λ a u. u))
    (hq, up)
    g.self_counted
    g.due
    (λ a m n ra c. g.complete_handed a m ra.0 ra.1
    (record {
      relayed = c.relayed;
      counted = λ b i u. c.counted b i (suspect_more x.spread.cards q p a b g.whole.below.whole.sound hq hp ∙ ap (λ t. t || suspects_in x.spread.cards a b) (and_left _ _ (ne_eqb a q n)) ∙ u);
    }))

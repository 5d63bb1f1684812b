-- A card's seat as it enters a round and counts others there, with the history that this makes.
use Rattle.std.specs.Prelude.{◌≡◌, ℕ, zero, suc, ◌^◌, ◌<◌, ◌≤◌, Bool, true, false, cond, not, ◌&&◌, ◌||◌, List, [], ◌∷◌, ◌==◌, bit_or, refl}
use Rattle.std.proofs.Common.{sym, ap, subst, ◌∙◌, ⊎_elim, arith}
use Rattle.std.proofs.lemmas.Nat.{or_lt}
use Rattle.std.specs.List.{AllByRecursion, list_any}
use Rattle.std.proofs.ByRecursion.{All-weaker}
use Rattle.std.proofs.lemmas.Bool.{cases_Bool, both_ways, cond_both, cond-true, cond-false, and_parts, and_from, and_left, or_cases, or_left, or_right, eqb-true, eq-eqb, lt-ltb, not_from_false}
use Rattle.notes.specs.Sets.{has, added}
use Rattle.notes.proofs.Bits.{has_none, has_added, has_union}
use Rattle.std.specs.Cmp.Derive.{one_truth}
use Rattle.cards.specs.Cards.{CardState, crashed_in, suspects_in}
use Rattle.wire.specs.declared.Item.{Item}
use Rattle.histories.specs.Histories.{Past, Fates, History}
use Rattle.histories.specs.Moves.{put, any, heard_of, counting}
use Rattle.histories.proofs.Puts.{row_same, any_decides}
use Rattle.histories.proofs.Kept.{moves_make_histories}
use Rattle.flooding.specs.Seats.{entering, hearing}
use Rattle.flooding.specs.declared.seats.Seat.{Seat}
use Rattle.flooding.specs.Mail.{is_for, taking_one, taking_in}
use Rattle.flooding.specs.declared.mail.Load.{Load}
use Rattle.flooding.specs.Made.{fates_of, brings, Seated, Says, SaysIn}
use Rattle.flooding.specs.Mails.{taking_one_round}
use Rattle.flooding.specs.Leaves.{brings_parts}
use Rattle.flooding.specs.Pasts.{Further, no_further, round_grows, then_further, counting_further, any_same, heard_stays}

-- What another card's move leaves.

pub seated_stays : (n : ℕ) (f : Fates) (h l : Past) (q r p : ℕ) (s : Seat) → History n f h → Further h l q r → ((p ≡ q) × (s.round ≡ r) → ⊥) → Seated n h p s → Seated n l p s
seated_stays n f h l q r p s i m d g =
    record {
      in_rounds = g.in_rounds;
      fits = g.fits;
      counts = λ y b. g.counts y b ∙ sym (m.counted_stays p s.round y d);
      knows = λ z o. g.knows z o ∙ sym (heard_stays n f h i l q r p s.round z m d);
    }

says_stays : (n : ℕ) (h l : Past) (q r : ℕ) (y : Item Load) → Further h l q r → Says n h y → Says n l y
says_stays n h l q r y m t =
    record {
      sender = t.sender;
      receiver = t.receiver;
      others = t.others;
      begun = t.begun;
      last = t.last;
      entered = omega (arith, t.entered, round_grows h l q r y.from m);
      knew = λ z. t.knew z ∙ sym (m.knew_stays y.from y.load.round z t.entered);
      fits = t.fits;
    }

pub all_say_stays : (n : ℕ) (h l : Past) (q r k : ℕ) (xs : List (Item Load)) → Further h l q r → AllByRecursion (SaysIn n h k) xs → AllByRecursion (SaysIn n l k) xs
all_say_stays n h l q r k xs m t = All-weaker (SaysIn n h k) (SaysIn n l k) (λ y f e. says_stays n h l q r y m (f e)) xs t

-- Card q sits in round r, with a history that it has made from h by counting cards there.
pub record Sits (n : ℕ) (f : Fates) (h : Past) (q r : ℕ) (s : Seat) : Type 0 where
  pub past : Past
  pub history : History n f past
  pub moved : Further h past q r
  pub here : s.round ≡ r
  pub seated : Seated n past q s

-- One card more is counted, and what it knew is heard.

counted_more : (h : Past) (q y s w : ℕ) → s ≡ h.round q → (counting h q y).counted q s w ≡ (h.counted q s w || w == y)
counted_more h q y s w e =
    let r : ℕ = h.round q in
    let row : ℕ → Bool = put (h.counted q r) y true in
    ap (λ i. (counting h q y).counted q i w) e ∙ ap (λ f. f w) (row_same h.counted q r row) ∙ first (w == y) (h.counted q r w) ∙ ap (λ i. h.counted q i w || w == y) (sym e)
  where
    first : (b a : Bool) → cond b true a ≡ (a || b)
    first true true = refl
    first true false = refl
    first false true = refl
    first false false = refl

heard_more : (n y : ℕ) (a b : ℕ → Bool) → y < n → any n (λ w. (a w || w == y) && b w) ≡ (any n (λ w. a w && b w) || b y)
heard_more n y a b l =
    one_truth _ _
    (λ e.
    let t = (any_decides (λ w. (a w || w == y) && b w) n).0 e in
    let p = and_parts (a t.0 || t.0 == y) (b t.0) t.2 in
    ⊎_elim
    (λ c. or_left _ (b y) ((any_decides (λ w. a w && b w) n).1 (t.0, t.1, and_from _ _ c p.1)))
    (λ c. or_right (any n (λ w. a w && b w)) _ (subst (λ w. b w ≡ true) (eqb-true t.0 y c) p.1))
    (or_cases (a t.0) (t.0 == y) p.0))
    (λ e.
    ⊎_elim
    (λ c.
    let t = (any_decides (λ w. a w && b w) n).0 c in
    let p = and_parts (a t.0) (b t.0) t.2 in
    (any_decides (λ w. (a w || w == y) && b w) n).1 (t.0, t.1, and_from _ _ (or_left _ (t.0 == y) p.0) p.1))
    (λ c. (any_decides (λ w. (a w || w == y) && b w) n).1 (y, l, and_from _ _ (or_right (a y) _ (eq-eqb y y refl)) c))
    (or_cases (any n (λ w. a w && b w)) (b y) e))

module _ (c : CardState) (h : Past) (q r : ℕ) (few : c.count ≤ 6) (bq : q < c.count) (up : crashed_in c q ≡ false) (begun : 1 ≤ r) where
  counts_one : (s : Seat) (y known : ℕ) (a : Sits c.count (fates_of c) h q r s) → y < c.count → suspects_in c q y ≡ false → a.past.round q ≤ a.past.round y
      → ((z : ℕ) → has known z ≡ a.past.knew y r z) → known < 2 ^ 32
      → Sits c.count (fates_of c) h q r (record { round = s.round; counted = added s.counted y; known = bit_or s.known known })
  counts_one s y known a by trusts there knew fits =
      let n : ℕ = c.count in
      let m = a.past in
      let g = a.seated in
      let now : m.round q ≡ r = a.moved.now in
      let e : s.round ≡ m.round q = a.here ∙ sym now in
      let more : (w : ℕ) → (counting m q y).counted q s.round w ≡ (m.counted q s.round w || w == y) = λ w. counted_more m q y s.round w e in
      record {
        past = counting m q y;
        history = (moves_make_histories n).counting_keeps (fates_of c) m q y a.history
            (record { card = bq; other = by; runs = not_from_false _ up; begun = omega arith; trusts = trusts; there = there });
        moved = then_further h m (counting m q y) q r a.moved (subst (λ i. Further m (counting m q y) q i) now (counting_further m q y));
        here = a.here;
        seated = record {
          in_rounds = g.in_rounds;
          fits = or_lt 32 s.known known g.fits fits;
          counts = λ w b. has_added s.counted y w ∙ ap (λ t. has s.counted w || (t && w == y)) (lt-ltb y 32 (omega arith)) ∙ ap (λ t. t || w == y) (g.counts w b) ∙ sym (more w);
          knows = λ z o.
              has_union s.known known z
              ∙ ap (λ t. t || has known z) (g.knows z o)
              ∙ ap (λ t. heard_of n m q s.round z || t) (knew z ∙ ap (λ i. m.knew y i z) (sym a.here))
              ∙ sym (heard_more n y (m.counted q s.round) (λ w. m.knew w s.round z) by)
              ∙ sym (any_same n (λ w. (counting m q y).counted q s.round w && m.knew w s.round z) (λ w. (m.counted q s.round w || w == y) && m.knew w s.round z) (λ w. ap (λ t. t && m.knew w s.round z) (more w)));
        };
      }

  -- On entering the round it counts itself.
  pub enters : (known : ℕ) → History c.count (fates_of c) h → h.round q ≡ r → r ≤ c.count → ((y : ℕ) → h.counted q r y ≡ false) → ((z : ℕ) → has known z ≡ h.knew q r z) → known < 2 ^ 32
      → Sits c.count (fates_of c) h q r (entering q r known)
  enters known i now last none knew fits =
      let n : ℕ = c.count in
      let empty : Sits n (fates_of c) h q r (record { round = r; counted = 0; known = 0 }) =
      record {
        past = h;
        history = i;
        moved = subst (λ j. Further h h q j) now (no_further h q);
        here = refl;
        seated = record {
          in_rounds = last;
          fits = omega arith;
          counts = λ y b. has_none y ∙ sym (none y);
          knows = λ z o. has_none z ∙ sym (any_same n (λ y. h.counted q r y && h.knew y r z) (λ _. false) (λ y. and_left _ (h.knew y r z) (none y)) ∙ nobody n);
        };
      } in
      counts_one (record { round = r; counted = 0; known = 0 }) q known empty bq
      (⊎_elim (λ t. absurd (both_ways (not (crashed_in c q)) (i.suspected_crashed q q t) (not_from_false _ up))) (λ t. t) (cases_Bool (suspects_in c q q)))
      (omega arith) knew fits
    where
      nobody : (m : ℕ) → any m (λ _. false) ≡ false
      nobody zero = refl
      nobody (suc m) = nobody m

  -- It hears an item of the round.
  pub hears : (s : Seat) (y : Item Load) → Says c.count h y → y.to ≡ q → y.load.round ≡ r → Sits c.count (fates_of c) h q r s
      → Sits c.count (fates_of c) h q r (hearing c q y.from y.load.known s)
  hears s y t to e a =
      let there : r ≤ h.round y.from = omega (arith, t.entered) in
      cond_both (suspects_in c q y.from) s (record { round = s.round; counted = added s.counted y.from; known = bit_or s.known y.load.known }) (Sits c.count (fates_of c) h q r)
      (λ _. a)
      (λ u. counts_one s y.from y.load.known a t.sender u
      (omega (arith, a.moved.now, a.moved.others y.from (λ d. t.others (to ∙ sym d)), there))
      (λ z. t.knew z ∙ ap (λ j. h.knew y.from j z) e ∙ sym (a.moved.knew_stays y.from r z there))
      t.fits)

  pub takes_in : (k : ℕ) (s : Seat) (xs : List (Item Load)) → AllByRecursion (SaysIn c.count h k) xs → Sits c.count (fates_of c) h q r s
      → Sits c.count (fates_of c) h q r (taking_in c k q s xs)
  takes_in k s [] t a = a
  takes_in k s (y ∷ ys) t a =
      takes_in k (taking_one c k q s y) ys t.1
      (cond_both (is_for k s.round q y) (hearing c q y.from y.load.known s) s (Sits c.count (fates_of c) h q r)
      (λ b.
      let e = and_parts (y.load.instance == k) (y.load.round == s.round && y.to == q) b in
      let f = and_parts (y.load.round == s.round) (y.to == q) e.1 in
      hears s y (t.0 (eqb-true _ _ e.0)) (eqb-true _ _ f.1) (eqb-true _ _ f.0 ∙ a.here) a)
      (λ _. a))

-- Whom a card has counted it goes on counting, and it counts every unsuspected sender of an item for its round.

module _ (c : CardState) (q : ℕ) where
  pub hearing_grows : (from known : ℕ) (s : Seat) (p : ℕ) → has s.counted p ≡ true → has (hearing c q from known s).counted p ≡ true
  hearing_grows from known s p e =
      cond_both (suspects_in c q from) s (record { round = s.round; counted = added s.counted from; known = bit_or s.known known }) (λ t. has t.counted p ≡ true)
      (λ _. e)
      (λ _. has_added s.counted from p ∙ or_left _ _ e)

  pub taking_grows : (k : ℕ) (s : Seat) (xs : List (Item Load)) (p : ℕ) → has s.counted p ≡ true → has (taking_in c k q s xs).counted p ≡ true
  taking_grows k s [] p e = e
  taking_grows k s (y ∷ ys) p e =
      taking_grows k (taking_one c k q s y) ys p
      (cond_both (is_for k s.round q y) (hearing c q y.from y.load.known s) s (λ t. has t.counted p ≡ true) (λ _. hearing_grows y.from y.load.known s p e) (λ _. e))

  pub hearing_counts : (from known : ℕ) (s : Seat) → from < 32 → suspects_in c q from ≡ false → has (hearing c q from known s).counted from ≡ true
  hearing_counts from known s l u =
      ap (λ t. has t.counted from) (cond-false (suspects_in c q from) s (record { round = s.round; counted = added s.counted from; known = bit_or s.known known }) u)
      ∙ has_added s.counted from from ∙ or_right (has s.counted from) _ (and_from _ _ (lt-ltb from 32 l) (eq-eqb from from refl))

  pub taking_counts : (k r : ℕ) (s : Seat) (xs : List (Item Load)) (p : ℕ) → s.round ≡ r → p < 32 → suspects_in c q p ≡ false → list_any (brings k r p q) xs ≡ true → has (taking_in c k q s xs).counted p ≡ true
  taking_counts k r s [] p e l u b = absurd (both_ways false refl b)
  taking_counts k r s (y ∷ ys) p e l u b =
      ⊎_elim
      (λ t.
      let z = brings_parts k r p q y t in
      let now : is_for k s.round q y ≡ true = and_from _ _ (eq-eqb _ _ z.2) (and_from _ _ (eq-eqb _ _ (z.3 ∙ sym e)) (eq-eqb _ _ z.1)) in
      taking_grows k (taking_one c k q s y) ys p
      (ap (λ (v : Seat). has v.counted p) (cond-true (is_for k s.round q y) (hearing c q y.from y.load.known s) s now)
      ∙ subst (λ v. has (hearing c q v y.load.known s).counted p ≡ true) (sym z.0) (hearing_counts p y.load.known s l u)))
      (λ t. taking_counts k r (taking_one c k q s y) ys p (taking_one_round c k q s y ∙ e) l u t)
      (or_cases _ _ b)

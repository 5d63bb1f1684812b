-- Every move keeps a history one. What the moves have in common is a step; a step keeps each part of a history.
use Rattle.std.proofs.Common.{◌≡◌, ℕ, suc, ◌<◌, ◌≤◌, true, false, ◌&&◌, eqb, ◌⊎◌, sym, refl, ap, ◌∙◌, subst, inl, inr, ⊎_elim, arith}
use Rattle.std.proofs.lemmas.Bool.{cases_Bool, both_ways, cases_lt, eqb-true, eq-eqb, and_parts, and_from}
use Rattle.histories.specs.Histories.{Past, Fates, Left, Heard, History}
use Rattle.histories.specs.Moves.{put, heard_of, beginning, proposing, counting, passing, MayPropose, MayCount, MayPass, Later, MovesMakeHistories}
use Rattle.histories.proofs.Puts.{at_put, at_row, row_same, any_decides}

-- p counts y: p runs, is in that round, does not suspect y, and y has entered the round.
record Counts (n : ℕ) (f : Fates) (h : Past) (p r y : ℕ) : Type 0 where
  runs : f.runs p ≡ true
  trusts : f.suspects p y ≡ false
  card : p < n
  other : y < n
  begun : 1 ≤ r
  now : h.round p ≡ r
  there : r ≤ h.round y

-- p leaves round r: it runs, has counted every card that it does not suspect, and takes along what they knew.
record Leaves (n : ℕ) (f : Fates) (h k : Past) (p r : ℕ) : Type 0 where
  runs : f.runs p ≡ true
  now : h.round p ≡ r
  all : (y : ℕ) → y < n → f.suspects p y ≡ false → h.counted p r y ≡ true
  same : (y : ℕ) → k.counted p r y ≡ true → h.counted p r y ≡ true
  takes : (x : ℕ) → k.knew p (suc r) x ≡ true → Heard n h p r x
  holds : (x : ℕ) → Heard n h p r x → k.knew p (suc r) x ≡ true

record Step (n : ℕ) (f g : Fates) (h k : Past) : Type 0 where
  fates : Later f g
  round_grows : (p : ℕ) → h.round p ≤ k.round p
  knew_stays : (p r x : ℕ) → 1 ≤ r → r ≤ h.round p → k.knew p r x ≡ h.knew p r x
  counted_grows : (p r y : ℕ) → h.counted p r y ≡ true → k.counted p r y ≡ true
  proposes : (p x : ℕ) → h.round p ≡ 0 → 1 ≤ k.round p → k.knew p 1 x ≡ true → x ≡ p
  proposes_own : (p : ℕ) → h.round p ≡ 0 → 1 ≤ k.round p → k.knew p 1 p ≡ true
  counts : (p r y : ℕ) → k.counted p r y ≡ true → (h.counted p r y ≡ true) ⊎ Counts n f h p r y
  leaves : (p r : ℕ) → Left n k p r → Left n h p r ⊎ Leaves n f h k p r

module _ (n : ℕ) (f g : Fates) (h k : Past) (i : History n f h) (d : Step n f g h k) where
  heard_on : (p r x : ℕ) → 1 ≤ r → Heard n h p r x → Heard n k p r x
  heard_on p r x o e = record {
    from = e.from;
    card = e.card;
    counted = d.counted_grows p r e.from e.counted;
    there = omega (arith, e.there, d.round_grows e.from);
    knew = d.knew_stays e.from r x o e.there ∙ e.knew;
  }

  heard_back : (p r x : ℕ) → 1 ≤ r → ((y : ℕ) → k.counted p r y ≡ true → h.counted p r y ≡ true) → Heard n k p r x → Heard n h p r x
  heard_back p r x o same e =
      let c = same e.from e.counted in
      let there = (i.counted_met p r e.from c).there in
      record { from = e.from; card = e.card; counted = c; there = there; knew = sym (d.knew_stays e.from r x o there) ∙ e.knew }

  -- Nothing is counted any more in a round that was left before.
  shut : (p r : ℕ) → Left n h p r → (y : ℕ) → k.counted p r y ≡ true → h.counted p r y ≡ true
  shut p r l y c = ⊎_elim (λ o. o) (λ e. absurd (omega (arith, l.gone, e.now))) (d.counts p r y c)

  -- Who leaves has counted y or suspects it.
  by_leave : (p r y : ℕ) → y < n → Leaves n f h k p r → (h.counted p r y ≡ true) ⊎ (f.suspects p y ≡ true)
  by_leave p r y b l = elim (cases_Bool (f.suspects p y)) [ inl e ↦ inr e | inr e ↦ inl (l.all y b e) ]

  not_suspected : {A : Type 0} (p y : ℕ) → f.runs y ≡ true → f.suspects p y ≡ true → A
  not_suspected p y r e = absurd (both_ways (f.runs y) (i.suspected_crashed p y e) r)

  -- A card that runs was counted in every round that another left.
  not_missed : (q u p : ℕ) → p < n → f.runs p ≡ true → Left n h q u → h.counted q u p ≡ true
  not_missed q u p b r l = ⊎_elim (λ c. c) (not_suspected q p r) (i.passed q u p b l)

  one_leaves : (p r q u : ℕ) → p < n → q < n → Leaves n f h k p r → Left n k q u → (k.counted p r q ≡ true) ⊎ (k.counted q u p ≡ true)
  one_leaves p r q u bp bq l m = elim (by_leave p r q bq l) [
    | inl c ↦ inl (d.counted_grows p r q c)
    | inr e ↦ inr (elim (d.leaves q u m) [
      | inl o ↦ d.counted_grows q u p (not_missed q u p bp l.runs o)
      | inr v ↦ not_suspected p q v.runs e
    ])
  ]

  kept : History n g k
  kept = record {
    suspected_crashed = λ p y e. ⊎_elim
        (λ o. elim (cases_Bool (g.runs y)) [ inl r ↦ not_suspected p y (d.fates.crashed_stay y r) o | inr r ↦ r ]) (λ o. o) (d.fates.new_crashed p y e);
    counted_met = λ p r y c. elim (d.counts p r y c) [
      | inl o ↦ let e = i.counted_met p r y o in record { card = e.card; begun = e.begun; there = omega (arith, e.there, d.round_grows y); here = omega (arith, e.here, d.round_grows p) }
      | inr e ↦ record { card = e.other; begun = e.begun; there = omega (arith, e.there, d.round_grows y); here = omega (arith, e.now, d.round_grows p) }
    ];
    passed = λ p r y b l. ⊎_elim (λ c. inl (d.counted_grows p r y c)) (λ e. inr (d.fates.suspicions_stay p y e))
        (⊎_elim (λ o. i.passed p r y b o) (λ v. by_leave p r y b v) (d.leaves p r l));
    self_counted = λ p r l. d.counted_grows p r p (⊎_elim (λ o. i.self_counted p r o)
        (λ v. ⊎_elim (λ c. c) (not_suspected p p v.runs) (by_leave p r p l.card v)) (d.leaves p r l));
    starts_with_self = λ p x b l e. elim (cases_lt 0 (h.round p)) [
      | inl o ↦ i.starts_with_self p x b o (sym (d.knew_stays p 1 x (omega arith) o) ∙ e)
      | inr z ↦ d.proposes p x (omega arith) l e
    ];
    self_known = λ p b l. elim (cases_lt 0 (h.round p)) [
      | inl o ↦ d.knew_stays p 1 p (omega arith) o ∙ i.self_known p b o
      | inr z ↦ d.proposes_own p (omega arith) l
    ];
    known_was_heard = λ p r x l e. heard_on p r x l.begun (elim (d.leaves p r l) [
      | inl o ↦ i.known_was_heard p r x o (sym (d.knew_stays p (suc r) x (omega arith) o.gone) ∙ e)
      | inr v ↦ v.takes x e
    ]);
    heard_is_known = λ p r x l e. elim (d.leaves p r l) [
      | inl o ↦ d.knew_stays p (suc r) x (omega arith) o.gone ∙ i.heard_is_known p r x o (heard_back p r x l.begun (shut p r o) e)
      | inr v ↦ v.holds x (heard_back p r x l.begun v.same e)
    ];
    back = λ p r y o c. d.counted_grows p r y (elim (d.counts p (suc r) y c) [
      | inl e ↦ i.back p r y o e
      | inr e ↦ ⊎_elim (λ c. c) (λ m. absurd (both_ways (f.suspects p y) e.trusts m))
          (i.passed p r y e.other (record { card = e.card; begun = o; gone = omega (arith, e.now) }))
    ]);
    counted_in_turn = λ p r q b u o c. d.counted_grows q r p (elim (d.counts p (suc r) q c) [
      | inl e ↦ i.counted_in_turn p r q b u o e
      | inr e ↦ not_missed q r p e.card e.runs (record { card = b; begun = o; gone = e.there })
    ]);
    either = λ p r q u e l m. elim (d.leaves p r l) [
      | inr v ↦ one_leaves p r q u l.card m.card v m
      | inl o ↦ elim (d.leaves q u m) [
        | inr v ↦ ⊎_elim (λ c. inr c) (λ c. inl c) (one_leaves q u p r m.card l.card v l)
        | inl w ↦ ⊎_elim (λ c. inl (d.counted_grows p r q c)) (λ c. inr (d.counted_grows q u p c)) (i.either p r q u e o w)
      ]
    ];
  }

-- The beginning.

from_nothing : (n : ℕ) (f : Fates) → ((p y : ℕ) → f.suspects p y ≡ false) → History n f beginning
from_nothing n f trust =
    let nobody : false ≡ true → ⊥ = λ e. both_ways false refl e in
    record {
      suspected_crashed = λ p y e. absurd (both_ways (f.suspects p y) (trust p y) e);
      counted_met = λ p r y c. absurd (nobody c);
      passed = λ p r y _ l. absurd (omega (arith, l.gone));
      self_counted = λ p r l. absurd (omega (arith, l.gone));
      starts_with_self = λ p x _ l _. absurd (omega arith);
      self_known = λ p _ l. absurd (omega arith);
      known_was_heard = λ p r x l _. absurd (omega (arith, l.gone));
      heard_is_known = λ p r x l _. absurd (omega (arith, l.gone));
      back = λ p r y _ c. absurd (nobody c);
      counted_in_turn = λ p r q _ _ _ c. absurd (nobody c);
      either = λ p r q u _ l _. absurd (omega (arith, l.gone));
    }

-- The moves are steps.

same_fates : (f : Fates) → Later f f
same_fates f = record { crashed_stay = λ p e. e; suspicions_stay = λ p y e. e; new_crashed = λ p y e. inl e }

module _ (n : ℕ) (f : Fates) (h : Past) where
  by_fates : (g : Fates) → Later f g → Step n f g h h
  by_fates g l = record {
    fates = l;
    round_grows = λ q. omega arith;
    knew_stays = λ q r x o l. refl;
    counted_grows = λ q r y c. c;
    proposes = λ q x z l e. absurd (omega arith);
    proposes_own = λ q z l. absurd (omega arith);
    counts = λ q r y c. inl c;
    leaves = λ q r l. inl l;
  }

  by_proposing : (p : ℕ) → MayPropose n f h p → Step n f f h (proposing h p)
  by_proposing p m = record {
    fates = same_fates f;
    round_grows = λ q. at_put h.round p 1 q (λ v. h.round q ≤ v) (λ e. omega (arith, ap h.round e, m.fresh)) (λ _. omega arith);
    knew_stays = λ q r x o l. at_row h.knew p 1 (λ x. eqb x p) q r (λ v. v x ≡ h.knew q r x) (λ e _. absurd (omega (arith, ap h.round e, m.fresh))) (λ _. refl);
    counted_grows = λ q r y c. c;
    proposes = λ q x z l e.
        let i : q ≡ p = the_one q z l in
        at_row h.knew p 1 (λ x. eqb x p) q 1 (λ v. v x ≡ true → x ≡ q) (λ _ _ e. eqb-true x p e ∙ sym i) (λ d _. absurd (d (i, refl))) e;
    proposes_own = λ q z l.
        let i : q ≡ p = the_one q z l in
        at_row h.knew p 1 (λ x. eqb x p) q 1 (λ v. v q ≡ true) (λ _ _. eq-eqb q p i) (λ d. absurd (d (i, refl)));
    counts = λ q r y c. inl c;
    leaves = λ q r l. inl (at_put h.round p 1 q (λ v. r < v → Left n h q r) (λ _ g. absurd (omega (arith, l.begun))) (λ _ g. record { card = l.card; begun = l.begun; gone = g }) l.gone);
  }
    where
      the_one : (q : ℕ) → h.round q ≡ 0 → 1 ≤ put h.round p 1 q → q ≡ p
      the_one q z l = at_put h.round p 1 q (λ v. 1 ≤ v → q ≡ p) (λ e _. e) (λ _ l. absurd (omega arith)) l

  by_counting : (p y : ℕ) → MayCount n f h p y → Step n f f h (counting h p y)
  by_counting p y m =
      let r₀ : ℕ = h.round p in
      let here : Counts n f h p r₀ y = record { runs = m.runs; trusts = m.trusts; card = m.card; other = m.other; begun = m.begun; now = refl; there = m.there } in
      record {
        fates = same_fates f;
        round_grows = λ q. omega arith;
        knew_stays = λ q r x o l. refl;
        counted_grows = λ q r z c. at_row h.counted p r₀ (put (h.counted p r₀) y true) q r (λ v. v z ≡ true)
            (λ e i. at_put (h.counted p r₀) y true z (λ v. v ≡ true) (λ _. refl) (λ _. subst (λ (a : ℕ). h.counted a r₀ z ≡ true) e (subst (λ (a : ℕ). h.counted q a z ≡ true) i c))) (λ _. c);
        proposes = λ q x z l e. absurd (omega arith);
        proposes_own = λ q z l. absurd (omega arith);
        counts = λ q r z. at_row h.counted p r₀ (put (h.counted p r₀) y true) q r (λ v. v z ≡ true → (h.counted q r z ≡ true) ⊎ Counts n f h q r z)
            (λ e i. at_put (h.counted p r₀) y true z (λ v. v ≡ true → (h.counted q r z ≡ true) ⊎ Counts n f h q r z)
            (λ j _. inr (subst (λ a. Counts n f h a r z) (sym e) (subst (λ a. Counts n f h p a z) (sym i) (subst (λ a. Counts n f h p r₀ a) (sym j) here))))
            (λ _ c. inl (subst (λ (a : ℕ). h.counted a r z ≡ true) (sym e) (subst (λ (a : ℕ). h.counted p a z ≡ true) (sym i) c))))
            (λ _ c. inl c);
        leaves = λ q r l. inl (record { card = l.card; begun = l.begun; gone = l.gone });
      }

  by_passing : (i : History n f h) (p : ℕ) → MayPass n f h p → Step n f f h (passing n h p)
  by_passing i p m =
      let r₀ : ℕ = h.round p in
      let now-knows : (x : ℕ) → (passing n h p).knew p (suc r₀) x ≡ heard_of n h p r₀ x = λ x. ap (λ v. v x) (row_same h.knew p (suc r₀) (heard_of n h p r₀)) in
      let leaving : Leaves n f h (passing n h p) p r₀ = record {
        runs = m.runs;
        now = refl;
        all = m.all;
        same = λ y c. c;
        takes = λ x e.
            let w = (any_decides (λ y. h.counted p r₀ y && h.knew y r₀ x) n).0 (sym (now-knows x) ∙ e) in
            let c = and_parts (h.counted p r₀ w.0) (h.knew w.0 r₀ x) w.2 in
            record { from = w.0; card = w.1; counted = c.0; there = (i.counted_met p r₀ w.0 c.0).there; knew = c.1 };
        holds = λ x e. now-knows x ∙ (any_decides (λ y. h.counted p r₀ y && h.knew y r₀ x) n).1 (e.from, e.card, and_from _ _ e.counted e.knew);
      } in
      let no-newcomer : (q : ℕ) → h.round q ≡ 0 → 1 ≤ (passing n h p).round q → ⊥ = λ q z l.
      at_put h.round p (suc r₀) q (λ v. 1 ≤ v → ⊥) (λ e _. omega (arith, ap h.round e, m.begun)) (λ _ l. omega arith) l in
      record {
        fates = same_fates f;
        round_grows = λ q. at_put h.round p (suc r₀) q (λ v. h.round q ≤ v) (λ e. omega (arith, ap h.round e)) (λ _. omega arith);
        knew_stays = λ q r x o l. at_row h.knew p (suc r₀) (heard_of n h p r₀) q r (λ v. v x ≡ h.knew q r x) (λ e j. absurd (omega (arith, ap h.round e))) (λ _. refl);
        counted_grows = λ q r y c. c;
        proposes = λ q x z l e. absurd (no-newcomer q z l);
        proposes_own = λ q z l. absurd (no-newcomer q z l);
        counts = λ q r y c. inl c;
        leaves = λ q r l. at_put h.round p (suc r₀) q (λ v. r < v → Left n h q r ⊎ Leaves n f h (passing n h p) q r)
            (λ e g. elim (cases_lt r (h.round q)) [
              | inl k ↦ inl (record { card = l.card; begun = l.begun; gone = k })
              | inr k ↦
                  let d : h.round p ≡ r = omega (arith, ap h.round e) in
                  inr (subst (λ a. Leaves n f h (passing n h p) a r) (sym e) (subst (λ b. Leaves n f h (passing n h p) p b) d leaving))
            ])
            (λ _ g. inl (record { card = l.card; begun = l.begun; gone = g })) l.gone;
      }

pub moves_make_histories : (n : ℕ) → MovesMakeHistories n
moves_make_histories n = record {
  beginning_is = from_nothing n;
  proposing_keeps = λ f h p i m. kept n f f h (proposing h p) i (by_proposing n f h p m);
  counting_keeps = λ f h p y i m. kept n f f h (counting h p y) i (by_counting n f h p y m);
  passing_keeps = λ f h p i m. kept n f f h (passing n h p) i (by_passing n f h i p m);
  later_keeps = λ f g h i l. kept n f g h h i (by_fates n f h g l);
}

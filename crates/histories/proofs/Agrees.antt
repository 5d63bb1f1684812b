-- Agreement and validity, from the history alone.
use Rattle.std.proofs.Common.{◌≡◌, ℕ, zero, suc, ◌<◌, ◌≤◌, Bool, true, false, ◌&&◌, ◌||◌, leb, sym, refl, ◌∙◌, subst, inl, inr, arith}
use Rattle.std.proofs.lemmas.Bool.{cases_eq, cases_Bool, both_ways, le-leb, and_parts, and_from, or_cases, or_left, or_right}
use Rattle.notes.specs.Sets.{how_many}
use Rattle.notes.proofs.Counting.{count_lt, count_short}
use Rattle.histories.specs.Histories.{Past, Fates, Left, Heard, History, Agreement, Validity, OwnKnown}

-- z knew of x on entering one of the rounds 1 .. j.
abbrev ever_knew : Past → ℕ → ℕ → ℕ → Bool
ever_knew h x zero z = false
ever_knew h x (suc j) z = (leb (suc j) (h.round z) && h.knew z (suc j) x) || ever_knew h x j z

module _ (n : ℕ) (f : Fates) (h : Past) (g : History n f h) where
  -- What is known stays known, for one round and for all that follow.
  next_known : (z r x : ℕ) → z < n → 1 ≤ r → suc r ≤ h.round z → h.knew z r x ≡ true → h.knew z (suc r) x ≡ true
  next_known z r x b o l k =
      let left : Left n h z r = record { card = b; begun = o; gone = l } in
      g.heard_is_known z r x left (record { from = z; card = b; counted = g.self_counted z r left; there = omega arith; knew = k })

  later_known : (j z r x : ℕ) → z < n → 1 ≤ r → r ≤ j → j ≤ h.round z → h.knew z r x ≡ true → h.knew z j x ≡ true
  later_known zero z r x b o l u k = absurd (omega arith)
  later_known (suc j) z r x b o l u k = elim (cases_eq r (suc j)) [
    | inl e ↦ subst (λ (i : ℕ). h.knew z i x ≡ true) e k
    | inr d ↦ next_known z j x b (omega arith) u (later_known j z r x b o (omega arith) (omega arith) k)
  ]

  ever_later : (i j z x : ℕ) → z < n → i ≤ j → j ≤ h.round z → ever_knew h x i z ≡ true → h.knew z j x ≡ true
  ever_later zero j z x b l u k = absurd (both_ways false refl k)
  ever_later (suc i) j z x b l u k = elim (or_cases _ _ k) [
    | inl e ↦ let m = and_parts (leb (suc i) (h.round z)) (h.knew z (suc i) x) e in later_known j z (suc i) x b (omega arith) l u m.1
    | inr e ↦ ever_later i j z x b (omega arith) u e
  ]

  ever_now : (i z x : ℕ) → suc i ≤ h.round z → h.knew z (suc i) x ≡ true → ever_knew h x (suc i) z ≡ true
  ever_now i z x u k = or_left _ _ (and_from _ _ (le-leb (suc i) (h.round z) u) k)

  -- z enters round r + 1 with x, and did not know it before.
  record Newly (z r x : ℕ) : Type 0 where
    card : z < n
    there : suc r ≤ h.round z
    knows : h.knew z (suc r) x ≡ true
    not_before : ever_knew h x r z ≡ false

  -- Whoever knows x got to know it once.
  once : (r z x : ℕ) → z < n → suc r ≤ h.round z → h.knew z (suc r) x ≡ true → (i : ℕ) × (i ≤ r) × Newly z i x
  once r z x b u k = elim (cases_Bool (ever_knew h x r z)) [
    | inr e ↦ (r, omega arith, record { card = b; there = u; knows = k; not_before = e })
    | inl t ↦ before r u t
  ]
    where
      before : (r : ℕ) → suc r ≤ h.round z → ever_knew h x r z ≡ true → (i : ℕ) × (i ≤ r) × Newly z i x
      before zero u t = absurd (both_ways false refl t)
      before (suc r) u t = elim (cases_Bool (ever_knew h x r z)) [
        | inr e ↦ (r, omega arith, record { card = b; there = omega arith; knows = ever_later (suc r) (suc r) z x b (omega arith) (omega arith) t; not_before = e })
        | inl t ↦ let o = before r (omega arith) t in (o.0, omega (arith, o.1), o.2)
      ]

  -- From a card that knew x a round earlier, z would have heard of it then, since it counted that card then too.
  heard_before : (r z x : ℕ) (m : Heard n h z (suc r) x) → Left n h z (suc r) → ever_knew h x r m.from ≡ true → h.knew z (suc r) x ≡ true
  heard_before zero z x m left t = absurd (both_ways false refl t)
  heard_before (suc r) z x m left t =
      let before : Left n h z (suc r) = record { card = left.card; begun = omega arith; gone = omega (arith, left.gone) } in
      let up : suc r ≤ h.round m.from = omega (arith, m.there) in
      g.heard_is_known z (suc r) x before
      (record {
        from = m.from;
        card = m.card;
        counted = g.back z (suc r) m.from (omega arith) m.counted;
        there = up;
        knew = ever_later (suc r) (suc r) m.from x m.card (omega arith) up t;
      })

  -- So it got x from a card that had itself newly got to know it.
  source : (z r x : ℕ) → Newly z (suc r) x → (y : ℕ) × Newly y r x
  source z r x e =
      let left : Left n h z (suc r) = record { card = e.card; begun = omega arith; gone = e.there } in
      let m = g.known_was_heard z (suc r) x left e.knows in (
        m.from,
        elim (cases_Bool (ever_knew h x r m.from)) [
          | inr o ↦ record { card = m.card; there = m.there; knows = m.knew; not_before = o }
          | inl t ↦ absurd (both_ways (ever_knew h x (suc r) z) e.not_before (ever_now r z x (omega (arith, e.there)) (heard_before r z x m left t)))
        ],
      )

  one_more : (r z x : ℕ) → Newly z r x → how_many (ever_knew h x r) n < how_many (ever_knew h x (suc r)) n
  one_more r z x e = count_lt (ever_knew h x r) (ever_knew h x (suc r)) n z (λ y _ k. or_right _ _ k) e.card e.not_before (ever_now r z x e.there e.knows)

  -- When x still comes new to somebody on entering round r + 1, r + 1 cards know it.
  crowd : (r z x : ℕ) → Newly z r x → suc r ≤ how_many (ever_knew h x (suc r)) n
  crowd zero z x e = omega (arith, one_more zero z x e)
  crowd (suc r) z x e = let s = source z r x e in omega (arith, one_more (suc r) z x e, crowd r s.0 x s.1)

  -- If p ends with x and q without, p knew it in a round before the last; q missed p there, and p counted q in the next: they contradict.
  no_difference : (p q x : ℕ) → p < n → q < n → h.round p ≡ suc n → h.round q ≡ suc n → h.knew p (suc n) x ≡ true → h.knew q (suc n) x ≡ false → ⊥
  no_difference p q x bp bq ep eq k no-k =
      let o = once n p x bp (omega arith) k in
      let r : ℕ = o.0 in
      let e = o.2 in
      let never : (i : ℕ) → i ≤ suc n → ever_knew h x i q ≡ true → ⊥ = λ i l t. both_ways (h.knew q (suc n) x) no-k (ever_later i (suc n) q x bq l (omega arith) t) in
      let out : ever_knew h x (suc r) q ≡ false = elim (cases_Bool (ever_knew h x (suc r) q)) [ inl t ↦ absurd (never (suc r) (omega (arith, o.1)) t) | inr z ↦ z ] in
      let room : suc (suc r) ≤ n = omega (arith, crowd r p x e, count_short (ever_knew h x (suc r)) n q bq out) in
      let apart : p ≡ q → ⊥ = λ e. both_ways (h.knew q (suc n) x) no-k (subst (λ (y : ℕ). h.knew y (suc n) x ≡ true) e k) in
      let left-p : Left n h p (suc (suc r)) = record { card = bp; begun = omega arith; gone = omega arith } in
      let left-q : Left n h q (suc r) = record { card = bq; begun = omega arith; gone = omega arith } in
      let counted : h.counted q (suc r) p ≡ true = elim (g.either p (suc (suc r)) q (suc r) apart left-p left-q) [
        | inl c ↦ g.counted_in_turn p (suc r) q bq apart (omega arith) c
        | inr c ↦ c
      ] in
      let told : h.knew q (suc (suc r)) x ≡ true = g.heard_is_known q (suc r) x left-q (record { from = p; card = bp; counted = counted; there = e.there; knew = e.knows }) in
      never (suc (suc r)) (omega arith) (ever_now (suc r) q x (omega arith) told)

  known_proposed : (r p x : ℕ) → p < n → suc r ≤ h.round p → h.knew p (suc r) x ≡ true → (x < n) × (1 ≤ h.round x)
  known_proposed zero p x b l k = let e = g.starts_with_self p x b l k in (omega arith, subst (λ (y : ℕ). 1 ≤ h.round y) (sym e) l)
  known_proposed (suc r) p x b l k =
      let m = g.known_was_heard p (suc r) x (record { card = b; begun = omega arith; gone = l }) k in
      known_proposed r m.from x m.card m.there m.knew

pub own_known : (n : ℕ) → OwnKnown n
own_known n f h g p r b o l = later_known n f h g r p 1 p b (omega arith) o l (g.self_known p b (omega arith))

pub agreement : (n : ℕ) → Agreement n n
agreement n f h g p q bp bq ep eq x = elim (cases_Bool (h.knew p (suc n) x)) [
  | inl t ↦ elim (cases_Bool (h.knew q (suc n) x)) [
    | inl u ↦ t ∙ sym u
    | inr e ↦ absurd (no_difference n f h g p q x bp bq ep eq t e)
  ]
  | inr e ↦ elim (cases_Bool (h.knew q (suc n) x)) [
    | inl u ↦ absurd (no_difference n f h g q p x bq bp eq ep u e)
    | inr z ↦ e ∙ sym z
  ]
]

pub validity : (n : ℕ) → Validity n
validity n f h g p zero x b o l k = absurd (omega arith)
validity n f h g p (suc r) x b o l k = known_proposed n f h g r p x b l k

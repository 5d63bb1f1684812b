-- A batch of all notes.
use Rattle.std.proofs.Common.{◌≡◌, ℕ, zero, suc, ◌<◌, ◌≤◌, Bool, true, false, cond, leb, List, [], ◌∷◌, map, length, get_or, count_ones, ◌+◌, refl, ap, ◌∙◌, inl, inr, arith}
use Rattle.std.specs.List.{range_with_len}
use Rattle.std.proofs.lemmas.Bool.{cases_eq, cond-true}
use Rattle.std.proofs.lemmas.List.FromFn.{length-map-range_with_len}
use Rattle.std.proofs.lemmas.Bool.Decides.{nat_tests}
use Rattle.notes.specs.Sets.{has, how_many}
use Rattle.notes.proofs.Bits.{count_notes}
use Rattle.logs.specs.Orders.{note_at, in_ranking_order, batch, appended, RankingOrder}

-- Whether the set of all 32 numbers holds each below n.
abbrev holds_below : ℕ → Bool
holds_below zero = true
holds_below (suc n) = cond (has 4294967295 n) (holds_below n) false

each_held : (n m : ℕ) → holds_below n ≡ true → m < n → has 4294967295 m ≡ true
each_held zero m h l = absurd (omega arith)
each_held (suc n) m h l = go (λ i k. each_held n m i k) (has 4294967295 n) refl h
  where
    go : (holds_below n ≡ true → m < n → has 4294967295 m ≡ true) → (t : Bool) → has 4294967295 n ≡ t → cond t (holds_below n) false ≡ true → has 4294967295 m ≡ true
    go lower true e i = elim (cases_eq m n) [
      | inl s ↦ ap (has 4294967295) s ∙ e
      | inr d ↦ lower i (omega arith)
    ]
    go lower false e i = absurd (let no : ◌≡◌ {A = ℕ} 0 1 = cc in omega arith)

all_held : (m : ℕ) → m < 32 → has 4294967295 m ≡ true
unfolding has
all_held m l = each_held 32 m refl l

whole_batch : (order : List ℕ) → ((k : ℕ) → k < length order → get_or order k 0 < 32) → batch order 4294967295 ≡ order
whole_batch [] h = refl
whole_batch (m ∷ ms) h = cond-true _ _ _ (all_held m (h 0 (omega arith))) ∙ ap (λ z. m ∷ z) (whole_batch ms (λ k l. h (suc k) (omega arith)))

few_pass : (f : ℕ → Bool) (n : ℕ) → how_many f n ≤ n
few_pass f zero = omega arith
few_pass f (suc n) = go (f n) (few_pass f n)
  where
    go : (t : Bool) → how_many f n ≤ n → how_many f n + cond t 1 0 ≤ suc n
    go true h = omega (arith, h)
    go false h = omega (arith, h)

-- An empty log has room for it.
room_for_all : leb (0 + count_ones 4294967295) 32 ≡ true
room_for_all = let few = few_pass (has 4294967295) 32 in let count = count_notes 4294967295 (omega arith) in grind (arith, nat_tests, few, count)

module _ {K : Type 0} (precedes : K → K → Bool) (book : List K) where
  as_many : (length (in_ranking_order precedes book) ≤ length book) × (length (in_ranking_order precedes book) ≤ 32)
  unfolding in_ranking_order
  as_many = go (leb (length book) 32) refl
    where
      go : (t : Bool) → leb (length book) 32 ≡ t → (length (cond t (map (note_at precedes book) (range_with_len 0 (length book))) []) ≤ length book) × (length (cond t (map (note_at precedes book) (range_with_len 0 (length book))) []) ≤ 32)
      go true e =
          let long = length-map-range_with_len (note_at precedes book) 0 (length book) in
          let few : length book ≤ 32 = grind (arith, nat_tests, e) in
          (omega (arith, long), omega (arith, long, few))
      go false e = (omega arith, omega arith)

  -- Appended to an empty log, the set of all numbers leaves the ranking.
  module _ (order log : List ℕ) (s : ℕ) (ranked : order ≡ in_ranking_order precedes book) (R : RankingOrder precedes book order) (all : s ≡ 4294967295) (taken : log ≡ appended order [] s) where
    whole : log ≡ order
    whole =
        taken
        ∙ ap (appended order []) all
        ∙ cond-true (leb (0 + count_ones 4294967295) 32) (batch order 4294967295) [] room_for_all
        ∙ whole_batch order (λ k l. let b = R.below k l in omega (arith, b, ap length ranked, as_many.1))

    pub all_taken : log ≡ in_ranking_order precedes book
    all_taken = whole ∙ ranked

    pub all_below : (k : ℕ) → k < length log → get_or log k 0 < length book
    all_below k l =
        let b = R.below k (omega (arith, l, ap length whole)) in
        omega (arith, b, ap (λ z. get_or z k 0) whole, ap length ranked, as_many.0)

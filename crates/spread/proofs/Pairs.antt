-- Counts of cards and notes, as a test passes less or more often.
use Rattle.std.proofs.Common.{◌≡◌, ℕ, zero, suc, ◌+◌, ◌<◌, ◌≤◌, Bool, true, false, not, ◌||◌, eqb, List, length, replicate, refl, ◌∙◌, ⊎_elim, arith}
use Rattle.std.proofs.lemmas.Bool.{cases_Bool, or_cases, or_right, and_from, eq-eqb, eqb-true, not_from_true, not_from_false}
use Rattle.std.proofs.lemmas.Bool.Decides.{nat_tests}
use Rattle.notes.specs.Sets.{has, how_many, total}
use Rattle.notes.proofs.Counting.{count_le, count_lt, total_le, total_trade, total_grow, total_none}
use Rattle.tables.specs.Tables.{set_in, with_note}
use Rattle.tables.proofs.Changes.{noted_more}
use Rattle.spread.specs.Counts.{pairs, unrelayed}

count_none : (f : ℕ → Bool) (k : ℕ) → ((m : ℕ) → f m ≡ false) → how_many f k ≡ 0
count_none f zero h = refl
count_none f (suc k) h = let rest = count_none f k h in let here = h k in grind (arith, nat_tests, rest, here)

pub pairs_none : (f : ℕ → ℕ → Bool) (n k : ℕ) → ((p m : ℕ) → f p m ≡ false) → pairs f n k ≡ 0
pairs_none f n k h = total_none (λ p. how_many (f p) k) n (λ p. count_none (f p) k (h p))

pub pairs_le : (f g : ℕ → ℕ → Bool) (n k : ℕ) → ((p m : ℕ) → p < n → m < k → f p m ≡ true → g p m ≡ true) → pairs f n k ≤ pairs g n k
pairs_le f g n k h = total_le (λ p. how_many (f p) k) (λ p. how_many (g p) k) n (λ p l. count_le (f p) (g p) k (λ m. h p m l))

pub pairs_lt : (f g : ℕ → ℕ → Bool) (n k p m : ℕ) → ((q j : ℕ) → q < n → j < k → f q j ≡ true → g q j ≡ true) → p < n → m < k → f p m ≡ false → g p m ≡ true → pairs f n k < pairs g n k
pairs_lt f g n k p m h l j fails passes =
    let here = count_lt (f p) (g p) k m (λ i. h p i l) j fails passes in
    omega
    (arith, total_trade (λ q. how_many (f q) k) (λ q. how_many (g q) k) n p 1 0 l (λ q b _. count_le (f q) (g q) k (λ i. h q i b)) (omega arith))

-- One note more passes at most once for each card.
count_grow : (f g : ℕ → Bool) (k m : ℕ) → ((j : ℕ) → j < k → f j ≡ true → (g j || eqb j m) ≡ true) → how_many f k ≤ how_many g k + 1
count_grow f g zero m h = omega arith
count_grow f g (suc k) m h =
    ⊎_elim
    (λ s. let rest = count_le f g k (λ j l t. ⊎_elim (λ a. a) (λ a. absurd (omega (arith, eqb-true j m a, eqb-true k m s))) (or_cases _ _ (h j (omega arith) t))) in grind (arith, nat_tests, rest))
    (λ s. let rest = count_grow f g k m (λ j l. h j (omega arith)) in let here = h k (omega arith) in grind (arith, nat_tests, rest, here))
    (cases_Bool (eqb k m))

pub pairs_grow : (f g : ℕ → ℕ → Bool) (n k m : ℕ) → ((p j : ℕ) → p < n → j < k → f p j ≡ true → (g p j || eqb j m) ≡ true) → pairs f n k ≤ pairs g n k + n
pairs_grow f g n k m h = total_grow (λ p. how_many (f p) k) (λ p. how_many (g p) k) n (λ p l. count_grow (f p) (g p) k m (λ j. h p j l))

-- The relays that may still come.

pub unrelayed_new : unrelayed (replicate 6 0) ≡ 192
unfolding unrelayed has total
unrelayed_new = refl

pub unrelayed_falls : (sets : List ℕ) (p m : ℕ) → length sets ≡ 6 → p < 6 → m < 32 → has (set_in sets p) m ≡ false → unrelayed (with_note sets p m) < unrelayed sets
unfolding unrelayed
unrelayed_falls sets p m e l j h =
    let more : (q k : ℕ) → _ = λ q k. noted_more sets p m q k (omega arith) j in
    pairs_lt (λ q k. not (has (set_in (with_note sets p m) q) k)) (λ q k. not (has (set_in sets q) k)) 6 32 p m
    (λ q k _ _ t. let a = more q k in grind (arith, nat_tests, a))
    l j
    (not_from_true _ (more p m ∙ or_right _ _ (and_from _ _ (eq-eqb p p refl) (eq-eqb m m refl))))
    (not_from_false _ h)

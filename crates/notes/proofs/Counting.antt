-- Counting the numbers that pass a test, and the pigeonhole that comes of it; and sums.
use Rattle.std.proofs.Common.{◌≡◌, ℕ, zero, suc, ◌+◌, ◌*◌, ◌<◌, ◌≤◌, Bool, true, false, cond, eqb, ◌⊎◌, sym, refl, ap, ◌∙◌, subst, inl, inr, ⊎_elim, suc-mul, arith}
use Rattle.std.proofs.lemmas.Bool.{cases_Bool, cases_eq, eqb-true, eqb-false}
use Rattle.std.proofs.lemmas.Bool.Decides.{nat_tests}
use Rattle.notes.specs.Sets.{how_many, total}

-- The first number apart from the others; and two tests that agree.
pub count_first : (f : ℕ → Bool) (n : ℕ) → how_many f (suc n) ≡ cond (f 0) 1 0 + how_many (λ m. f (suc m)) n
count_first f zero = omega arith
count_first f (suc n) = let e = count_first f n in omega arith

pub count_same : (f g : ℕ → Bool) (n : ℕ) → ((m : ℕ) → f m ≡ g m) → how_many f n ≡ how_many g n
count_same f g zero h = refl
count_same f g (suc n) h = cc (count_same f g n h, h n)

-- What passes the first test passes the second.
abbrev Implies : (ℕ → Bool) → (ℕ → Bool) → ℕ → Type 0
Implies f g n = (m : ℕ) → m < n → f m ≡ true → g m ≡ true

pub count_le : (f g : ℕ → Bool) (n : ℕ) → Implies f g n → how_many f n ≤ how_many g n
count_le f g zero h = omega arith
count_le f g (suc n) h =
    let rest = count_le f g n (λ m l. h m (omega arith)) in
    let here = h n (omega arith) in
    grind (arith, nat_tests, rest, here)

pub count_lt : (f g : ℕ → Bool) (n k : ℕ) → Implies f g n → k < n → f k ≡ false → g k ≡ true → how_many f n < how_many g n
count_lt f g zero k h l fails passes = absurd (omega arith)
count_lt f g (suc n) k h l fails passes =
    ⊎_elim
    (λ t. let e = eqb-true k n t in let rest = count_le f g n (λ m l. h m (omega arith)) in let a : f n ≡ false = ap f (sym e) ∙ fails in let b : g n ≡ true = ap g (sym e) ∙ passes in grind (arith, nat_tests))
    (λ t. let e = eqb-false k n t in let rest = count_lt f g n k (λ m l. h m (omega arith)) (omega (arith, e)) fails passes in let here = h n (omega arith) in grind (arith, nat_tests, rest, here))
    (cases_Bool (eqb k n))

count_all : (n : ℕ) → how_many (λ _. true) n ≡ n
count_all zero = refl
count_all (suc n) = let rest = count_all n in omega arith

-- Where one does not pass, not all pass.
pub count_short : (f : ℕ → Bool) (n k : ℕ) → k < n → f k ≡ false → how_many f n < n
count_short f n k l fails = let all = count_all n in let less = count_lt f (λ _. true) n k (λ _ _ _. refl) l fails refl in omega arith

-- No two numbers below n go to the same.
abbrev pub Apart : (ℕ → ℕ) → ℕ → Type 0
Apart f n = (i j : ℕ) → i < n → j < n → f i ≡ f j → i ≡ j

-- What goes to m goes to k in its place: so where k was free, fewer targets serve.
abbrev instead : (ℕ → ℕ) → ℕ → ℕ → ℕ → ℕ
instead f m k i = cond (eqb (f i) m) k (f i)

instead_below : (f : ℕ → ℕ) (n m k : ℕ) → ((i : ℕ) → i < n → f i < suc m) → ((i : ℕ) → i < n → f i ≡ k → ⊥) → k < suc m → (i : ℕ) → i < n → instead f m k i < m
instead_below f n m k h free l i b = let x = h i b in let y = free i b in grind (arith, nat_tests, x, y)

instead_apart : (f : ℕ → ℕ) (n m k : ℕ) → Apart f n → ((i : ℕ) → i < n → f i ≡ k → ⊥) → Apart (instead f m k) n
instead_apart f n m k h free i j a b e =
    let x = h i j a b in
    let y = free i a in
    let z = free j b in
    grind (arith, nat_tests, x, y, z, e)

-- The pigeonhole: numbers that stay apart need as many targets.
pub pigeonhole : (n m : ℕ) (f : ℕ → ℕ) → ((i : ℕ) → i < n → f i < m) → Apart f n → n ≤ m
pigeonhole zero m f h apart = omega arith
pigeonhole (suc n) zero f h apart = absurd (let l = h 0 (omega arith) in omega arith)
pigeonhole (suc n) (suc m) f h apart =
    let free : (i : ℕ) → i < n → f i ≡ f n → ⊥ = λ i l e. let s = apart i n (omega arith) (omega arith) e in omega arith in
    let rest =
    pigeonhole n m (instead f m (f n))
    (instead_below f n m (f n) (λ i l. h i (omega arith)) free (h n (omega arith)))
    (instead_apart f n m (f n) (λ i j a b. apart i j (omega arith) (omega arith)) free) in
    omega arith

-- Whether some number below n goes to k.
find : (f : ℕ → ℕ) (n k : ℕ) → ((i : ℕ) × (i < n) × (f i ≡ k)) ⊎ ((i : ℕ) → i < n → f i ≡ k → ⊥)
find f zero k = inr (λ i l e. omega arith)
find f (suc n) k =
    ⊎_elim
    (λ r. inl (r.0, let l = r.1 in omega arith, r.2))
    (λ none.
    ⊎_elim
    (λ t. inl (n, omega arith, eqb-true (f n) k t))
    (λ t. inr (λ i l e. ⊎_elim (λ s. eqb-false (f n) k t (ap f (sym (eqb-true i n s)) ∙ e)) (λ s. none i (let d = eqb-false i n s in omega (arith, d)) e) (cases_Bool (eqb i n))))
    (cases_Bool (eqb (f n) k)))
    (find f n k)

-- Numbers below n that go, apart, to numbers below n reach every one of them.
pub all_reached : (n : ℕ) (f : ℕ → ℕ) → ((i : ℕ) → i < n → f i < n) → Apart f n → (k : ℕ) → k < n → (i : ℕ) × (i < n) × (f i ≡ k)
all_reached zero f h apart k l = absurd (omega arith)
all_reached (suc n) f h apart k l =
    ⊎_elim
    (λ r. r)
    (λ none. absurd (let p = pigeonhole (suc n) n (instead f n k) (instead_below f (suc n) n k h none l) (instead_apart f (suc n) n k apart none) in omega arith))
    (find f (suc n) k)

-- Sums.

pub total_le : (f g : ℕ → ℕ) (n : ℕ) → ((k : ℕ) → k < n → f k ≤ g k) → total f n ≤ total g n
unfolding total
total_le f g zero h = omega arith
total_le f g (suc n) h = omega (arith, h n (omega arith), total_le f g n (λ k l. h k (omega arith)))

-- What the part x gains is `more`, and what it gives up is `less`; no other part falls.
pub total_trade : (f g : ℕ → ℕ) (n x less more : ℕ) → x < n → ((k : ℕ) → k < n → (k ≡ x → ⊥) → f k ≤ g k) → f x + less ≤ g x + more → total f n + less ≤ total g n + more
unfolding total
total_trade f g zero x less more l h e = absurd (omega arith)
total_trade f g (suc n) x less more l h e =
    ⊎_elim
    (λ z. let here : f n + less ≤ g n + more = subst (λ j. f j + less ≤ g j + more) (sym z) e in omega (arith, here, total_le f g n (λ k b. h k (omega arith) (λ w. omega arith))))
    (λ d. omega (arith, h n (omega arith) d, total_trade f g n x less more (omega (arith, d)) (λ k b. h k (omega arith)) e))
    (cases_eq n x)

pub total_grow : (f g : ℕ → ℕ) (n : ℕ) → ((k : ℕ) → k < n → f k ≤ g k + 1) → total f n ≤ total g n + n
unfolding total
total_grow f g zero h = omega arith
total_grow f g (suc n) h = omega (arith, h n (omega arith), total_grow f g n (λ k l. h k (omega arith)))

pub total_const : (a n : ℕ) → total (λ _. a) n ≡ n * a
unfolding total
total_const a zero = omega arith
total_const a (suc n) = rw (suc-mul, total_const a n)

pub total_none : (f : ℕ → ℕ) (n : ℕ) → ((k : ℕ) → f k ≡ 0) → total f n ≡ 0
unfolding total
total_none f zero h = refl
total_none f (suc n) h = omega (arith, h n, total_none f n h)

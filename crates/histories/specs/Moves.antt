-- The moves of one card, which make every history: it proposes, counts another card, passes on to the next round.
use Rattle.std.specs.Prelude.{◌≡◌, ℕ, zero, suc, ◌<◌, ◌≤◌, Bool, true, false, cond, ◌&&◌, ◌||◌, ◌⊎◌, ◌==◌, nat_eq}
use Rattle.histories.specs.Histories.{Past, Fates, History}

-- The same function, but for v at p.
abbrev pub put : {A : Type 0} → (ℕ → A) → ℕ → A → ℕ → A
put f p v a = cond (a == p) v (f a)

-- Some number below n passes.
abbrev pub any : ℕ → (ℕ → Bool) → Bool
any zero test = false
any (suc n) test = test n || any n test

-- What card p has heard in round r: what the counted cards knew on entering it.
abbrev pub heard_of : ℕ → Past → ℕ → ℕ → ℕ → Bool
heard_of n h p r x = any n (λ y. h.counted p r y && h.knew y r x)

-- Nothing has happened.
abbrev pub beginning : Past
beginning = record { round = λ _. 0; knew = λ _ _ _. false; counted = λ _ _ _. false }

-- It enters round 1 and knows itself.
abbrev pub proposing : Past → ℕ → Past
proposing h p = record { round = put h.round p 1; knew = put h.knew p (put (h.knew p) 1 (λ x. nat_eq x p)); counted = h.counted }

abbrev pub counting : Past → ℕ → ℕ → Past
counting h p y = record { round = h.round; knew = h.knew; counted = put h.counted p (put (h.counted p) (h.round p) (put (h.counted p (h.round p)) y true)) }

-- From round n this is the decision.
abbrev pub passing : ℕ → Past → ℕ → Past
passing n h p =
    record { round = put h.round p (suc (h.round p)); knew = put h.knew p (put (h.knew p) (suc (h.round p)) (heard_of n h p (h.round p))); counted = h.counted }

-- A card may act that runs.
pub record MayPropose (n : ℕ) (f : Fates) (h : Past) (p : ℕ) : Type 0 where
  pub card : p < n
  pub runs : f.runs p ≡ true
  pub fresh : h.round p ≡ 0

-- It counts a card that it does not suspect, and that has entered the round.
pub record MayCount (n : ℕ) (f : Fates) (h : Past) (p y : ℕ) : Type 0 where
  pub card : p < n
  pub other : y < n
  pub runs : f.runs p ≡ true
  pub begun : 1 ≤ h.round p
  pub trusts : f.suspects p y ≡ false
  pub there : h.round p ≤ h.round y

-- It passes on when every unsuspected card is counted.
pub record MayPass (n : ℕ) (f : Fates) (h : Past) (p : ℕ) : Type 0 where
  pub card : p < n
  pub runs : f.runs p ≡ true
  pub begun : 1 ≤ h.round p
  pub all : (y : ℕ) → y < n → f.suspects p y ≡ false → h.counted p (h.round p) y ≡ true

-- Cards crash for good; suspicions stay, and a new one is of a crashed card.
pub record Later (f g : Fates) : Type 0 where
  pub crashed_stay : (p : ℕ) → g.runs p ≡ true → f.runs p ≡ true
  pub suspicions_stay : (p y : ℕ) → f.suspects p y ≡ true → g.suspects p y ≡ true
  pub new_crashed : (p y : ℕ) → g.suspects p y ≡ true → (f.suspects p y ≡ true) ⊎ (g.runs y ≡ false)

-- Every move keeps a history one.
pub record MovesMakeHistories (n : ℕ) : Type 0 where
  pub beginning_is : (f : Fates) → ((p y : ℕ) → f.suspects p y ≡ false) → History n f beginning
  pub proposing_keeps : (f : Fates) (h : Past) (p : ℕ) → History n f h → MayPropose n f h p → History n f (proposing h p)
  pub counting_keeps : (f : Fates) (h : Past) (p y : ℕ) → History n f h → MayCount n f h p y → History n f (counting h p y)
  pub passing_keeps : (f : Fates) (h : Past) (p : ℕ) → History n f h → MayPass n f h p → History n f (passing n h p)
  pub later_keeps : (f g : Fates) (h : Past) → History n f h → Later f g → History n g h

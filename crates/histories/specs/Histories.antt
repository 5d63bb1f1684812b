-- One instance of flooding with n rounds over the cards 0 .. n - 1, as a history: what each card knew and whom it counted, round by round.
use Rattle.std.specs.Prelude.{◌≡◌, ℕ, suc, ◌<◌, ◌≤◌, Bool, true, false, ◌⊎◌, ◌≢◌}

-- `round p` is 0 before card p proposes, r while p is in round r, and suc n once it has decided.
-- `knew p r x`: p knew of x's proposal when it entered round r. `counted p r y`: in round r, p counted y.
pub record Past : Type 0 where
  pub round : ℕ → ℕ
  pub knew : ℕ → ℕ → ℕ → Bool
  pub counted : ℕ → ℕ → ℕ → Bool

-- Which cards run, and who suspects whom (the suspecting card first).
pub record Fates : Type 0 where
  pub runs : ℕ → Bool
  pub suspects : ℕ → ℕ → Bool

-- Card p has left round r.
pub record Left (n : ℕ) (h : Past) (p r : ℕ) : Type 0 where
  pub card : p < n
  pub begun : 1 ≤ r
  pub gone : r < h.round p

-- In round r, p counted a card that had entered the round with x known.
pub record Heard (n : ℕ) (h : Past) (p r x : ℕ) : Type 0 where
  pub from : ℕ
  pub card : from < n
  pub counted : h.counted p r from ≡ true
  pub there : r ≤ h.round from
  pub knew : h.knew from r x ≡ true

-- Who is counted is a card, and both are in that round or beyond it.
pub record Met (n : ℕ) (h : Past) (p r y : ℕ) : Type 0 where
  pub card : y < n
  pub begun : 1 ≤ r
  pub there : r ≤ h.round y
  pub here : r ≤ h.round p

-- What holds of every history that flooding makes.
pub record History (n : ℕ) (f : Fates) (h : Past) : Type 0 where
  pub suspected_crashed : (p y : ℕ) → f.suspects p y ≡ true → f.runs y ≡ false
  pub counted_met : (p r y : ℕ) → h.counted p r y ≡ true → Met n h p r y
  -- a card leaves a round with everybody counted or suspected, itself counted
  pub passed : (p r y : ℕ) → y < n → Left n h p r → (h.counted p r y ≡ true) ⊎ (f.suspects p y ≡ true)
  pub self_counted : (p r : ℕ) → Left n h p r → h.counted p r p ≡ true
  -- it starts with itself, and takes into the next round what the counted cards knew
  pub starts_with_self : (p x : ℕ) → p < n → 1 ≤ h.round p → h.knew p 1 x ≡ true → x ≡ p
  pub self_known : (p : ℕ) → p < n → 1 ≤ h.round p → h.knew p 1 p ≡ true
  pub known_was_heard : (p r x : ℕ) → Left n h p r → h.knew p (suc r) x ≡ true → Heard n h p r x
  pub heard_is_known : (p r x : ℕ) → Left n h p r → Heard n h p r x → h.knew p (suc r) x ≡ true
  -- who is counted now was counted before
  pub back : (p r y : ℕ) → 1 ≤ r → h.counted p (suc r) y ≡ true → h.counted p r y ≡ true
  -- who is counted in a round had counted the other in the round before
  pub counted_in_turn : (p r q : ℕ) → q < n → (p ≢ q) → 1 ≤ r → h.counted p (suc r) q ≡ true → h.counted q r p ≡ true
  -- of two cards that left rounds, one counted the other
  pub either : (p r q s : ℕ) → (p ≢ q) → Left n h p r → Left n h q s → (h.counted p r q ≡ true) ⊎ (h.counted q s p ≡ true)

-- After m rounds: cards that have left the last of them know the same proposals.
abbrev pub Agreement : ℕ → ℕ → Type 0
Agreement n m =
    (f : Fates) (h : Past) → History n f h
    → (p q : ℕ) → p < n → q < n → h.round p ≡ suc m → h.round q ≡ suc m
    → (x : ℕ) → h.knew p (suc m) x ≡ h.knew q (suc m) x

-- Who is known is a card that has proposed.
abbrev pub Validity : ℕ → Type 0
Validity n =
    (f : Fates) (h : Past) → History n f h
    → (p r x : ℕ) → p < n → 1 ≤ r → r ≤ h.round p → h.knew p r x ≡ true → (x < n) × (1 ≤ h.round x)

-- A card never forgets its own proposal, so it always knows one.
abbrev pub OwnKnown : ℕ → Type 0
OwnKnown n =
    (f : Fates) (h : Past) → History n f h
    → (p r : ℕ) → p < n → 1 ≤ r → r ≤ h.round p → h.knew p r p ≡ true

-- What both interfaces say of the cards, the suspicions, the wire and the work.
use Rattle.std.specs.Prelude.{◌≡◌, ℕ, ◌<◌, ◌≤◌, true, false, cond, ◌&&◌, ◌||◌, ◌⊎◌, List, [], ◌∷◌, length, ◌==◌, nat_lt}
use Rattle.std.specs.List.{remove, AllByRecursion}
use Rattle.parts.specs.Views.{Net}

-- The first list is what is left of the second when some of its items leave: a part of it, in its order.
pub data PartOf : List ℕ → List ℕ → Type 0 where
  none : PartOf [] []
  stays : (x : ℕ) {xs ys : List ℕ} → PartOf xs ys → PartOf (x ∷ xs) (x ∷ ys)
  leaves : (y : ℕ) {xs ys : List ℕ} → PartOf xs ys → PartOf xs (y ∷ ys)

-- A new one with n cards; above 6 makes 0.
pub record NewNet (n : ℕ) (v : Net) : Type 0 where
  pub cards : v.cards ≡ cond (nat_lt 6 n) 0 n
  pub no_crash : (p : ℕ) → v.crashed p ≡ false
  pub no_suspicion : (q p : ℕ) → v.suspects q p ≡ false
  pub no_item : v.wire ≡ []
  pub no_work : v.work ≡ 0

-- The cards, the crashes and the suspicions stay.
pub record SameCards (v w : Net) : Type 0 where
  pub cards : w.cards ≡ v.cards
  pub crashed : (p : ℕ) → w.crashed p ≡ v.crashed p
  pub suspects : (q p : ℕ) → w.suspects q p ≡ v.suspects q p

-- An accepted carry.
pub record NetCarried (v w : Net) : Type 0 where
  pub same_cards : SameCards v w
  pub work_falls : w.work < v.work

-- An accepted loss of item i: that item leaves.
pub record NetLost (v w : Net) (i : ℕ) : Type 0 where
  pub same_cards : SameCards v w
  pub item_leaves : w.wire ≡ remove v.wire i
  pub work_falls : w.work < v.work

-- An accepted crash of card p.
pub record NetCrashed (v w : Net) (p : ℕ) : Type 0 where
  pub cards : w.cards ≡ v.cards
  pub crash_stands : (q : ℕ) → w.crashed q ≡ (q == p || v.crashed q)
  pub suspects : (q r : ℕ) → w.suspects q r ≡ v.suspects q r
  pub items_leave : PartOf w.wire v.wire
  pub work_stays_below : w.work ≤ v.work

-- An accepted suspicion: card q suspects card p.
pub record NetSuspected (v w : Net) (q p : ℕ) : Type 0 where
  pub cards : w.cards ≡ v.cards
  pub crashed : (r : ℕ) → w.crashed r ≡ v.crashed r
  pub suspicion_stands : (a b : ℕ) → w.suspects a b ≡ ((a == q && b == p) || v.suspects a b)
  pub work_stays_below : w.work ≤ v.work

-- What is certain of every state.
pub record LawfulNet (v : Net) : Type 0 where
  pub few_cards : v.cards ≤ 6
  pub crashed_are_cards : (p : ℕ) → v.crashed p ≡ true → p < v.cards
  pub suspecting_are_cards : (q p : ℕ) → v.suspects q p ≡ true → q < v.cards
  pub suspected_have_crashed : (q p : ℕ) → v.suspects q p ≡ true → v.crashed p ≡ true
  pub senders_are_cards_or_carrier : AllByRecursion (λ s. (s < v.cards) ⊎ (s ≡ 7)) v.wire
  pub work_covers_wire : length v.wire ≤ v.work

-- The cards of a part: what their state holds, and what a crash and a suspicion make of it.
use Rattle.std.specs.Prelude.{◌≡◌, ℕ, ◌<◌, ◌≤◌, Bool, true, false, cond, not, ◌||◌, List, [], map, length, replicate, nat_lt, slice_index_or, slice_set}
use Rattle.std.specs.List.{list_all, range_with_len}
use Rattle.parts.specs.Views.{Net}
use Rattle.cards.specs.declared.Card.{Card}

-- `suspicions` has a row for each card: whom it suspects.
pub record CardState : Type 0 where
  pub count : ℕ
  pub crashed : List Bool
  pub suspicions : List (List Bool)

abbrev pub known_of : ℕ → List Card → CardState
known_of n xs = record { count = n; crashed = map (λ k. k.crashed) xs; suspicions = map (λ k. k.suspects) xs }

abbrev pub crashed_in : CardState → ℕ → Bool
crashed_in c p = slice_index_or c.crashed p false

abbrev pub suspects_in : CardState → ℕ → ℕ → Bool
suspects_in c q p = slice_index_or (slice_index_or c.suspicions q []) p false

-- Card p runs.
abbrev pub Running : CardState → ℕ → Type 0
Running c p = (p < c.count) × (crashed_in c p ≡ false)

-- The lists are of six cards, however many there are.
pub record SixCards (c : CardState) : Type 0 where
  pub few : c.count ≤ 6
  pub crashes : length c.crashed ≡ 6
  pub rows : length c.suspicions ≡ 6
  pub row : (q : ℕ) → q < 6 → length (slice_index_or c.suspicions q []) ≡ 6

-- Above 6 makes none.
abbrev pub new_cards : ℕ → CardState
new_cards n = record { count = cond (nat_lt 6 n) 0 n; crashed = replicate 6 false; suspicions = replicate 6 (replicate 6 false) }

abbrev pub with_crash : CardState → ℕ → CardState
with_crash c p = record { count = c.count; crashed = slice_set c.crashed p true; suspicions = c.suspicions }

abbrev pub with_suspicion : CardState → ℕ → ℕ → CardState
with_suspicion c q p = record { count = c.count; crashed = c.crashed; suspicions = slice_set c.suspicions q (slice_set (slice_index_or c.suspicions q []) p true) }

-- What a part shows of its cards, with the senders of its wire and its work.
abbrev pub net_of : CardState → List ℕ → ℕ → Net
net_of c wire work = record { cards = c.count; crashed = crashed_in c; suspects = suspects_in c; wire = wire; work = work }

-- Card q, if it runs, suspects card p, if that has crashed.
abbrev pub knows : CardState → ℕ → ℕ → Bool
knows c q p = crashed_in c q || not (crashed_in c p) || suspects_in c q p

abbrev pub knows_all : CardState → ℕ → Bool
knows_all c q = list_all (knows c q) (range_with_len 0 c.count)

-- Every running card suspects every crashed one.
abbrev pub AllSuspected : CardState → Type 0
AllSuspected c = (q p : ℕ) → q < c.count → p < c.count → crashed_in c q ≡ false → crashed_in c p ≡ true → suspects_in c q p ≡ true

-- What holds of every state that a crash and a suspicion make, where they are accepted.
pub record SoundCards (c : CardState) : Type 0 where
  pub few : c.count ≤ 6
  pub crashes : length c.crashed ≡ 6
  pub rows : length c.suspicions ≡ 6
  pub row : (q : ℕ) → q < 6 → length (slice_index_or c.suspicions q []) ≡ 6
  pub crashed_cards : (p : ℕ) → crashed_in c p ≡ true → p < c.count
  pub suspecting_cards : (q p : ℕ) → suspects_in c q p ≡ true → q < c.count
  pub suspected_crashed : (q p : ℕ) → suspects_in c q p ≡ true → crashed_in c p ≡ true

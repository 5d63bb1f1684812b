-- The answer of a call by cases, each with its number and its values; and which case the rule gives, in plain numbers:
-- a call is turned down by the first reason that holds.
use Rattle.std.specs.Prelude.{ℕ, Bool, cond, not, List, [], ◌∷◌, length, is_some, Ok, Err, Result, nat_lt, slice_index_or}
use Rattle.parts.specs.declared.refusal.Refusal.{Refusal}
use Rattle.parts.specs.Views.{Net, BroadcastView, ConsensusView}
use Rattle.parts.specs.Refusals.{number}

pub record Case : Type 0 where
  pub number : ℕ
  pub values : List ℕ

-- A call that is accepted has the number 0. A refusal has its own, and holds no values.
abbrev pub case_of : Result Unit Refusal → Case
case_of (Ok x) = record { number = 0; values = [] }
case_of (Err r) = record { number = number r; values = [] }

-- Reasons are asked in their order: each holds or not, and has the number of its refusal.
abbrev pub turned_down_by : List (Bool × ℕ) → Case
turned_down_by [] = record { number = 0; values = [] }
turned_down_by ((holds, n) ∷ others) = cond holds (record { number = n; values = [] }) (turned_down_by others)

-- Against card p, whatever it is to do.
abbrev pub acting_reasons : Net → ℕ → List (Bool × ℕ)
acting_reasons v p = (not (nat_lt p v.cards), 1) ∷ (v.crashed p, 2) ∷ []

-- Against a post of note m by card p.
abbrev pub post_reasons : BroadcastView → ℕ → ℕ → List (Bool × ℕ)
post_reasons v p m =
    (not (nat_lt p v.net.cards), 1) ∷ (v.net.crashed p, 2) ∷ (not (nat_lt m 32), 3) ∷ (is_some (v.poster m), 4) ∷ []

-- Against carrying item i.
abbrev pub carry_reasons : Net → ℕ → List (Bool × ℕ)
carry_reasons v i = (not (nat_lt i (length v.wire)), 6) ∷ []

-- Against losing item i.
abbrev pub lose_reasons : Net → ℕ → List (Bool × ℕ)
lose_reasons v i = (not (nat_lt i (length v.wire)), 6) ∷ (not (v.crashed (slice_index_or v.wire i 7)), 7) ∷ []

-- Against a crash of card p.
abbrev pub crash_reasons : Net → ℕ → List (Bool × ℕ)
crash_reasons v p = acting_reasons v p

-- Against card q suspecting card p.
abbrev pub suspect_reasons : Net → ℕ → ℕ → List (Bool × ℕ)
suspect_reasons v q p =
    (not (nat_lt q v.cards), 1) ∷ (not (nat_lt p v.cards), 1) ∷ (v.crashed q, 2) ∷ (not (v.crashed p), 5) ∷ []

-- Against card p proposing the set s in instance k.
abbrev pub propose_reasons : ConsensusView → ℕ → ℕ → ℕ → List (Bool × ℕ)
propose_reasons v k p s =
    (not (nat_lt p v.net.cards), 1) ∷ (v.net.crashed p, 2) ∷ (is_some (v.proposal k p), 8)
    ∷ (not (nat_lt k 32), 9) ∷ (not (nat_lt 0 s), 9) ∷ []

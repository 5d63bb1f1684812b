-- The tables of the parts: who posted each note, a set of notes for each card, and a proposal or decision by instance and card.
use Rattle.std.specs.Prelude.{◌≡◌, ℕ, ◌+◌, ◌<◌, List, [], ◌∷◌, length, replicate, Some, None, Option, bit_or, slice_index, slice_index_or, slice_set}
use Rattle.notes.specs.Sets.{added}
use Rattle.parts.specs.Views.{BroadcastView, ConsensusView}
use Rattle.cards.specs.Cards.{CardState, net_of}

-- Posters.

abbrev pub poster_in : List (Option ℕ) → ℕ → Option ℕ
poster_in t m = slice_index_or t m None

-- All that a post asks of a broadcast: its cards and its posters.
abbrev pub posts_view : CardState → List (Option ℕ) → BroadcastView
posts_view c t = record { net = net_of c [] 0; poster = poster_in t; handed = λ _. 0 }

abbrev pub one_if_free : Option ℕ → ℕ
one_if_free None = 1
one_if_free (Some p) = 0

-- How many notes are not posted yet.
abbrev pub free_notes : List (Option ℕ) → ℕ
free_notes [] = 0
free_notes (o ∷ os) = one_if_free o + free_notes os

-- A set of notes for each card.

abbrev pub set_in : List ℕ → ℕ → ℕ
set_in t p = slice_index t p

abbrev pub with_note : List ℕ → ℕ → ℕ → List ℕ
with_note t p m = slice_set t p (added (set_in t p) m)

abbrev pub with_notes : List ℕ → ℕ → ℕ → List ℕ
with_notes t p s = slice_set t p (bit_or (set_in t p) s)

-- A set of notes, or none, by instance and card.

pub record Shaped {X : Type 0} (t : List (List X)) : Type 0 where
  pub instances : length t ≡ 32
  pub row : (k : ℕ) → k < 32 → length (slice_index_or t k []) ≡ 6

abbrev pub new_ballots : List (List (Option ℕ))
new_ballots = replicate 32 (replicate 6 None)

abbrev pub ballot_in : List (List (Option ℕ)) → ℕ → ℕ → Option ℕ
ballot_in t k p = slice_index_or (slice_index_or t k []) p None

abbrev pub with_ballot : List (List (Option ℕ)) → ℕ → ℕ → Option ℕ → List (List (Option ℕ))
with_ballot t k p o = slice_set t k (slice_set (slice_index_or t k []) p o)

-- All that a proposal asks of a consensus: its cards and the proposals.
abbrev pub proposals_view : CardState → List (List (Option ℕ)) → ConsensusView
proposals_view c t = record { net = net_of c [] 0; proposal = ballot_in t; decision = λ _ _. None }

-- How many proposals are not made yet.
abbrev pub free_ballots : List (List (Option ℕ)) → ℕ
free_ballots [] = 0
free_ballots (r ∷ rs) = free_notes r + free_ballots rs

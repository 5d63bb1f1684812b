-- Lists of notes, and the words in which the law of the order speaks.
use Rattle.std.specs.Prelude.{◌≡◌, ℕ, ◌+◌, ◌*◌, Bool, true, false, ◌||◌, List, [], ◌∷◌, ◌++◌, Some, None, Option, ◌==◌}
use Rattle.notes.specs.Sets.{has}

-- The set s holds the note m.
abbrev pub In : ℕ → ℕ → Type 0
In s m = has s m ≡ true

-- Whether the note m stands in a list.
abbrev pub among : ℕ → List ℕ → Bool
among m [] = false
among m (x ∷ xs) = m == x || among m xs

-- No note stands twice in a list.
abbrev pub NoneTwice : List ℕ → Type 0
NoneTwice [] = Unit {0}
NoneTwice (x ∷ xs) = (among x xs ≡ false) × NoneTwice xs

-- One list is a beginning of another: appending some notes or none to it gives the other.
abbrev pub Begins : List ℕ → List ℕ → Type 0
Begins l whole = (rest : List ℕ) × (whole ≡ l ++ rest)

abbrev pub one_if : {A : Type 0} → Option A → ℕ
one_if None = 0
one_if (Some x) = 1

-- The most steps that a run can make, by its posts, its cards and the bounds of broadcast and consensus.
abbrev pub step_bound : ℕ → ℕ → ℕ → ℕ → ℕ
step_bound posts cards broadcast consensus = posts * (broadcast + cards * (consensus + 2))

-- How lines and fields are written.
use Rattle.std.specs.Prelude.{ℕ, List, [], ◌∷◌, ◌++◌, decimal, ◌≢◌}
use Rattle.text.specs.Fields.{Cut, number, word, label}

-- bytes none of which is `stop`
abbrev pub Free : ℕ → List ℕ → Type 0
Free stop [] = Unit {0}
Free stop (b ∷ bs) = (b ≢ stop) × Free stop bs

-- each field with a space before it
abbrev pub spaced_after : List (List ℕ) → List ℕ
spaced_after [] = []
spaced_after (w ∷ ws) = 32 ∷ (w ++ spaced_after ws)

-- fields with one space between each two
abbrev pub spaced : List (List ℕ) → List ℕ
spaced [] = []
spaced (w ∷ ws) = w ++ spaced_after ws

-- the bytes of a field
abbrev pub field_bytes : Cut → List ℕ
field_bytes (number n) = decimal n
field_bytes (word bs place) = bs
field_bytes (label bs place) = bs

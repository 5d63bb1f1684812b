-- What a label is, and which label may stand before which.
use Rattle.std.specs.Prelude.{ℕ, Bool, true, false, ◌&&◌, ◌||◌, List, [], ◌∷◌, length, ◌==◌, nat_le, nat_lt}
use Rattle.labels.specs.declared.Label.{Label}

-- A label stands for its bytes and their place in the caller's text.
abbrev pub label_of : Label → List ℕ × ℕ
label_of l = (l.text.now, l.at)

-- A byte that a label may hold.
abbrev pub printable : ℕ → Bool
printable b = nat_le 32 b && nat_le b 126

abbrev pub all_printable : List ℕ → Bool
all_printable [] = true
all_printable (b ∷ bs) = printable b && all_printable bs

-- A label has 1 to 8 bytes of 32 to 126.
abbrev pub is_label : List ℕ → Bool
is_label bs = (nat_le 1 (length bs) && nat_le (length bs) 8) && all_printable bs

-- Labels go byte by byte from the left; a beginning stands before the longer label.
abbrev pub label_before : List ℕ → List ℕ → Bool
label_before [] ys = true
label_before (x ∷ xs) [] = false
label_before (x ∷ xs) (y ∷ ys) = nat_lt x y || (x == y && label_before xs ys)

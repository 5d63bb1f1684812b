-- Words of five, six and eight bytes, byte by byte.
use Rattle.std.proofs.Common.{◌≡◌, ℕ, List, [], ◌∷◌, length, get_or, refl, ap, arith}

pub five_bytes : (bs : List ℕ) → length bs ≡ 5 → bs ≡ get_or bs 0 0 ∷ get_or bs 1 0 ∷ get_or bs 2 0 ∷ get_or bs 3 0 ∷ get_or bs 4 0 ∷ []
five_bytes (a ∷ b ∷ c ∷ d ∷ e ∷ []) n = refl
five_bytes (a ∷ b ∷ c ∷ d ∷ e ∷ f ∷ gs) n = absurd (omega arith)
five_bytes (a ∷ b ∷ c ∷ d ∷ []) n = absurd (omega arith)
five_bytes (a ∷ b ∷ c ∷ []) n = absurd (omega arith)
five_bytes (a ∷ b ∷ []) n = absurd (omega arith)
five_bytes (a ∷ []) n = absurd (omega arith)
five_bytes [] n = absurd (omega arith)

pub six_bytes : (bs : List ℕ) → length bs ≡ 6 → bs ≡ get_or bs 0 0 ∷ get_or bs 1 0 ∷ get_or bs 2 0 ∷ get_or bs 3 0 ∷ get_or bs 4 0 ∷ get_or bs 5 0 ∷ []
six_bytes (a ∷ bs) n = ap (λ t. a ∷ t) (five_bytes bs (omega arith))
six_bytes [] n = absurd (omega arith)

pub eight_bytes : (bs : List ℕ) → length bs ≡ 8 → bs ≡ get_or bs 0 0 ∷ get_or bs 1 0 ∷ get_or bs 2 0 ∷ get_or bs 3 0 ∷ get_or bs 4 0 ∷ get_or bs 5 0 ∷ get_or bs 6 0 ∷ get_or bs 7 0 ∷ []
eight_bytes (a ∷ b ∷ cs) n = ap (λ t. a ∷ b ∷ t) (six_bytes cs (omega arith))
eight_bytes (a ∷ []) n = absurd (omega arith)
eight_bytes [] n = absurd (omega arith)

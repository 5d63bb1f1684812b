-- Where a part is cut: at the place of the first byte `stop`, or at the end.
use Rattle.std.proofs.Common.{◌≡◌, ℕ, ◌≤◌, eqb, List, [], ◌∷◌, length, Option, refl, arith}
use Rattle.std.proofs.lemmas.Bool.Decides.{nat_tests}
use Rattle.std.specs.List.{position, position_or_len}
use Rattle.std.specs.Option.{unwrap_or}
use Rattle.text.specs.Parts.{up_to}

pub up_to_le : (stop : ℕ) (bs : List ℕ) → up_to stop bs ≤ length bs
up_to_le stop [] = omega arith
up_to_le stop (b ∷ bs) = let ih = up_to_le stop bs in grind (arith, nat_tests)

up_to_is : (stop : ℕ) (bs : List ℕ) → position_or_len (λ b. eqb b stop) bs ≡ up_to stop bs
up_to_is stop [] = refl
up_to_is stop (b ∷ bs) = let ih = up_to_is stop bs in grind (arith, nat_tests)

pub up_to_position : (stop : ℕ) (bs : List ℕ) (o : Option ℕ) → o ≡ position (λ b. eqb b stop) bs → unwrap_or o (length bs) ≡ up_to stop bs
up_to_position stop bs o e = let l = up_to_le stop bs in let p = up_to_is stop bs in grind (arith, nat_tests)

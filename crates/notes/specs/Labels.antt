-- The order of labels is total and transitive.
use Rattle.std.proofs.Common.{◌≡◌, ℕ, true, ◌||◌, List, [], ◌∷◌, refl, arith}
use borrow.Author.Tests.{clash}
use Rattle.std.proofs.lemmas.Bool.Decides.{nat_tests}
use Rattle.labels.specs.Order.{label_before}

pub label_total : (xs ys : List ℕ) → (label_before xs ys || label_before ys xs) ≡ true
label_total [] ys = refl
label_total (x ∷ xs) [] = refl
label_total (x ∷ xs) (y ∷ ys) = let rest = label_total xs ys in grind (arith, nat_tests, rest)

pub label_transitive : (xs ys zs : List ℕ) → label_before xs ys ≡ true → label_before ys zs ≡ true → label_before xs zs ≡ true
label_transitive [] ys zs a b = refl
label_transitive (x ∷ xs) [] zs a b = absurd (clash a)
label_transitive (x ∷ xs) (y ∷ ys) [] a b = absurd (clash b)
label_transitive (x ∷ xs) (y ∷ ys) (z ∷ zs) a b = let rest = label_transitive xs ys zs in grind (arith, nat_tests, rest)

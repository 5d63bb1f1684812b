-- What the library says of slices, in the words of labels.
use Rattle.std.proofs.Common.{◌≡◌, ℕ, ◌&&◌, List, [], ◌∷◌, refl, ap, arith}
use Rattle.std.specs.List.{list_all}
use Rattle.std.proofs.lemmas.Bool.Decides.{nat_tests}
use Rattle.std.proofs.lemmas.Cmp.{same_from_slice_cmp}
use Rattle.std.specs.Cmp.Lexicographic.{slice_cmp}
use Rattle.std.specs.Ordering.{nat_cmp, is_le}
use Rattle.labels.specs.Order.{printable, all_printable, label_before}

-- The order of labels is that of slices of bytes.
pub slice_order : (xs ys : List ℕ) → is_le (slice_cmp nat_cmp xs ys) ≡ label_before xs ys
slice_order xs ys = same_from_slice_cmp nat_cmp is_le label_before refl (λ _ _. refl) (λ _ _. refl) (λ x y xs ys o h. grind (arith, nat_tests)) xs ys _ refl

-- A label's bytes are printable, each one.
pub each_printable : (bs : List ℕ) → list_all printable bs ≡ all_printable bs
each_printable [] = refl
each_printable (b ∷ bs) = ap (λ t. printable b && t) (each_printable bs)

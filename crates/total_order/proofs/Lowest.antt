-- The first of the numbers below n that passes a test is the lowest that does.
use Rattle.std.proofs.Common.{◌≡◌, ℕ, zero, suc, ◌+◌, Bool, cond, [], ◌∷◌, ◌++◌, Some, None, Option, refl, ap, ◌∙◌, arith}
use Rattle.std.specs.List.{find, range_with_len}
use Rattle.std.specs.Option.{option_or}
use Rattle.std.proofs.lemmas.List.Folds.{find-append}
use Rattle.logs.specs.Orders.{or_else, lowest_that}

one_more_number : (a n : ℕ) → range_with_len a (suc n) ≡ range_with_len a n ++ ((a + n) ∷ [])
one_more_number a zero = let h : a ≡ a + 0 = omega arith in ap (λ k. k ∷ []) h
one_more_number a (suc n) = let h : (a + 1) + n ≡ a + suc n = omega arith in
    ap (λ ks. a ∷ ks) (one_more_number (a + 1) n) ∙ ap (λ k. a ∷ (range_with_len (a + 1) n ++ (k ∷ []))) h

either : (o x : Option ℕ) → option_or o x ≡ or_else o x
either None x = refl
either (Some y) x = refl

pub found_lowest : (f : ℕ → Bool) (n : ℕ) → find f (range_with_len 0 n) ≡ lowest_that f n
found_lowest f zero = refl
found_lowest f (suc n) =
    let h : 0 + n ≡ n = omega arith in
    ap (find f) (one_more_number 0 n ∙ ap (λ k. range_with_len 0 n ++ (k ∷ [])) h) ∙ find-append f (range_with_len 0 n) (n ∷ []) ∙ either (find f (range_with_len 0 n)) (cond (f n) (Some n) None)
    ∙ ap (λ o. or_else o (cond (f n) (Some n) None)) (found_lowest f n)

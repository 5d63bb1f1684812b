-- `numeral` reads what `decimal` writes, and nothing else.
use Rattle.std.proofs.Common.{◌≡◌, ℕ, zero, suc, ◌+◌, ◌-◌, ◌*◌, ◌^◌, ◌<◌, ◌≤◌, true, false, ◌&&◌, eqb, ltb, leb, List, [], ◌∷◌, length, get_or, Some, None, decimal, Option, sym, refl, ap, ◌∙◌, ⊎_elim, arith, rules}
use Rattle.std.proofs.lemmas.Bool.Decides.{nat_tests}
use Rattle.std.proofs.lemmas.Bool.{cases_Bool, cond-true, cond-false}
use Rattle.std.proofs.lemmas.Str.Parse.{IsNumeralModel, numerals_by_fold}
use Rattle.std.proofs.lemmas.Fmt.{decimal-digits_value, digits_decimal, digits_value-decimal, decimal_nonempty, first_decimal, decimal_digit}
use Rattle.text.specs.Numbers.{digits_after, numeral, Reads}

-- bytes that are all digits, and the number that they write after those that wrote n
abbrev pub Digits : List ℕ → Type 0
Digits [] = Unit {0}
Digits (c ∷ cs) = (48 ≤ c) × (c ≤ 57) × Digits cs

abbrev value_after : ℕ → List ℕ → ℕ
value_after n [] = n
value_after n (c ∷ cs) = value_after (n * 10 + (c - 48)) cs

digit_numerals : IsNumeralModel Digits (value_after 0)
digit_numerals = numerals_by_fold Digits (search rules) value_after (search rules)

pub decimal_digits : (v : ℕ) → v < 2 ^ 32 → Digits (decimal v)
decimal_digits v h = digits_decimal digit_numerals v (omega arith)

grows : (n : ℕ) (bs : List ℕ) → n ≤ value_after n bs
grows n [] = omega arith
grows n (c ∷ cs) = let ih = grows (n * 10 + (c - 48)) cs in omega arith

from_read : (n : ℕ) (bs : List ℕ) (v : ℕ) → n ≤ 4294967295 → digits_after n bs ≡ Some v → Digits bs × (v ≡ value_after n bs) × (v ≤ 4294967295)
from_read n [] v h e = let q : n ≡ v = grind arith in (tt, sym q, omega arith)
from_read n (c ∷ cs) v h e =
    ⊎_elim
    (λ yes.
    let e' : digits_after (n * 10 + (c - 48)) cs ≡ Some v = sym (cond-true _ _ _ yes) ∙ e in
    let low : 48 ≤ c = grind (arith, nat_tests) in
    let high : c ≤ 57 = grind (arith, nat_tests) in
    let fits : n * 10 + (c - 48) ≤ 4294967295 = grind (arith, nat_tests) in
    let ih = from_read (n * 10 + (c - 48)) cs v fits e' in
    ((low, high, ih.0), ih.1, ih.2))
    (λ no. let z : None ≡ Some v = sym (cond-false _ _ _ no) ∙ e in absurd (grind arith))
    (cases_Bool (leb 48 c && (leb c 57 && leb (n * 10 + (c - 48)) 4294967295)))

read_digits : (n : ℕ) (bs : List ℕ) → Digits bs → value_after n bs ≤ 4294967295 → digits_after n bs ≡ Some (value_after n bs)
read_digits n [] d h = refl
read_digits n (c ∷ cs) d h =
    let g = grows (n * 10 + (c - 48)) cs in
    let low = d.0 in
    let high = d.1 in
    let fits : n * 10 + (c - 48) ≤ 4294967295 = omega arith in
    let yes : (leb 48 c && (leb c 57 && leb (n * 10 + (c - 48)) 4294967295)) ≡ true = grind (arith, nat_tests) in
    cond-true _ _ _ yes ∙ read_digits (n * 10 + (c - 48)) cs d.2 h

-- no leading zero
without_zero : (bs : List ℕ) → 0 < length bs → (get_or bs 0 0 ≡ 48 → length bs ≡ 1) → numeral bs ≡ digits_after 0 bs
without_zero [] h z = absurd (omega arith)
without_zero (c ∷ cs) h z =
    let no : (eqb c 48 && ltb 0 (length cs)) ≡ false = ⊎_elim (λ y. let q : c ≡ 48 = grind (arith, nat_tests) in let one = z q in absurd (grind (arith, nat_tests))) (λ n. n) (cases_Bool (eqb c 48 && ltb 0 (length cs))) in
    cond-false _ _ _ no

form : (bs : List ℕ) (v : ℕ) → numeral bs ≡ Some v → (0 < length bs) × (get_or bs 0 0 ≡ 48 → length bs ≡ 1) × (digits_after 0 bs ≡ Some v)
form [] v e = absurd (grind arith)
form (c ∷ cs) v e =
    ⊎_elim
    (λ yes. let z : None ≡ Some v = sym (cond-true _ _ _ yes) ∙ e in absurd (grind arith))
    (λ no. (omega arith, λ q. grind (arith, nat_tests), sym (cond-false _ _ _ no) ∙ e))
    (cases_Bool (eqb c 48 && ltb 0 (length cs)))

pub numeral_only : (bs : List ℕ) (v : ℕ) → numeral bs ≡ Some v → (v < 2 ^ 32) × (bs ≡ decimal v)
numeral_only bs v e =
    let f = form bs v e in
    let s = from_read 0 bs v (omega arith) f.2 in
    let less : value_after 0 bs < 2 ^ 64 = omega (arith, s.1, s.2) in
    (omega (arith, s.2), sym (decimal-digits_value digit_numerals bs s.0 f.0 f.1 less) ∙ ap decimal (sym s.1))

only_zero : (v : ℕ) → v < 2 ^ 32 → get_or (decimal v) 0 0 ≡ 48 → length (decimal v) ≡ 1
only_zero zero h e = ap length (decimal_digit 0 (omega arith))
only_zero (suc v) h e = let f = first_decimal (suc v) (omega arith) (omega arith) in absurd (omega arith)

pub numeral_back : (v : ℕ) → v < 2 ^ 32 → numeral (decimal v) ≡ Some v
numeral_back v h =
    let value : value_after 0 (decimal v) ≡ v = digits_value-decimal digit_numerals v (omega arith) in
    without_zero (decimal v) (decimal_nonempty v (omega arith)) (only_zero v h)
    ∙ read_digits 0 (decimal v) (decimal_digits v h) (omega arith)
    ∙ ap (λ (n : ℕ). Some n) value

pub reads : (bs : List ℕ) (r : Option ℕ) → r ≡ numeral bs → Reads bs r
unfolding Reads
reads bs None e = λ v h q. let z : None ≡ Some v = e ∙ ap numeral q ∙ numeral_back v h in absurd (grind arith)
reads bs (Some v) e = numeral_only bs v (sym e)

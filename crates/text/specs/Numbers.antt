-- Decimal numbers of up to 32 bits, without leading zeros.
use Rattle.std.specs.Prelude.{◌≡◌, ℕ, ◌+◌, ◌-◌, ◌*◌, ◌^◌, ◌<◌, cond, ◌&&◌, List, [], ◌∷◌, length, Some, None, decimal, Option, ◌==◌, ◌≢◌, nat_le, nat_lt}

-- the number that n and one more digit write, if it is below 2 ^ 32
abbrev pub one_digit_more : ℕ → ℕ → Option ℕ
one_digit_more n c = cond (nat_le 48 c && (nat_le c 57 && nat_le (n * 10 + (c - 48)) 4294967295)) (Some (n * 10 + (c - 48))) None

-- the number that n and the digits after it write, while it stays below 2 ^ 32
abbrev pub digits_after : ℕ → List ℕ → Option ℕ
digits_after n [] = Some n
digits_after n (c ∷ cs) = cond (nat_le 48 c && (nat_le c 57 && nat_le (n * 10 + (c - 48)) 4294967295)) (digits_after (n * 10 + (c - 48)) cs) None

-- no digit at all and a zero before other digits are no number
abbrev pub numeral : List ℕ → Option ℕ
numeral [] = None
numeral (c ∷ cs) = cond (c == 48 && nat_lt 0 (length cs)) None (digits_after 0 (c ∷ cs))

-- Bytes are read as a number exactly where they are the decimal digits of one below 2 ^ 32.
unfoldable pub Reads : List ℕ → Option ℕ → Type 0
Reads bs None = (v : ℕ) → v < 2 ^ 32 → bs ≢ decimal v
Reads bs (Some v) = (v < 2 ^ 32) × (bs ≡ decimal v)

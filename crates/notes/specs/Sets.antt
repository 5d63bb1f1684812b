-- Sets of notes as numbers: bit m of the number stands for note m.
use Rattle.std.specs.Prelude.{ℕ, zero, suc, ◌+◌, ◌/◌, ◌%◌, ◌^◌, Bool, cond, Some, None, Option, ◌==◌, bit_and, bit_or, bit_xor, nat_lt}
use Rattle.std.specs.Int.Count.{count_trailing_zeros}

-- Whether the set s holds the note m.
unfoldable pub has : ℕ → ℕ → Bool
has s m = s / 2 ^ m % 2 == 1

-- The set with the note m; no note is above 31.
abbrev pub added : ℕ → ℕ → ℕ
added s m = cond (nat_lt m 32) (bit_or s (2 ^ m)) s

-- The set without the notes of another: those of s where the two differ.
abbrev pub minus : ℕ → ℕ → ℕ
minus s t = bit_and s (bit_xor s t)

-- The lowest note of a set.
abbrev pub low : ℕ → Option ℕ
low s = cond (s == 0) None (Some (count_trailing_zeros 32 s))

-- How many numbers below n pass a test.
abbrev pub how_many : (ℕ → Bool) → ℕ → ℕ
how_many f zero = 0
how_many f (suc n) = how_many f n + cond (f n) 1 0

-- The sum of f over the numbers below n.
unfoldable pub total : (ℕ → ℕ) → ℕ → ℕ
total f zero = 0
total f (suc n) = total f n + f n

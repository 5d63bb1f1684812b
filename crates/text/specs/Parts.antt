-- Parts of a file, as pairs of their bytes and the place where they end.
use Rattle.std.specs.Prelude.{ℕ, suc, ◌-◌, cond, List, [], ◌∷◌, length, take, drop, Some, None, Ok, Err, Option, Result, ◌==◌}
use Rattle.std.specs.Option.{option_map}
use Rattle.text.specs.declared.fault.LineFault.{LineFault}
use Rattle.text.specs.declared.fault.LineFault.TheVariants.{Absent, Wrong}
use Rattle.text.specs.declared.part.Part.{Part}

-- bytes, and the place where they end
abbrev pub Span : Type 0
Span = List ℕ × ℕ

abbrev pub part_of : Part → Span
part_of p = (p.bytes.now, p.end)

-- the whole of a file
abbrev pub whole_of : List ℕ → Span
whole_of file = (file, length file)

-- the place of the first byte
abbrev pub place_of : Span → ℕ
place_of p = p.1 - length p.0

-- how many bytes stand before the first byte `stop`, or all of them
abbrev pub up_to : ℕ → List ℕ → ℕ
up_to stop [] = 0
up_to stop (b ∷ bs) = cond (b == stop) 0 (suc (up_to stop bs))

-- what stands before the first byte `stop`
abbrev pub before : ℕ → Span → Span
before stop p = (take (up_to stop p.0) p.0, p.1 - length (drop (up_to stop p.0) p.0))

abbrev pub tail_of : List ℕ → Option (List ℕ)
tail_of [] = None
tail_of (b ∷ bs) = Some bs

-- what follows the first byte `stop`, if it stands there
abbrev pub after : ℕ → Span → Option Span
after stop p = option_map (λ bs. (bs, p.1)) (tail_of (drop (up_to stop p.0) p.0))

-- a line and what follows it, as spans
abbrev pub both_of : {E : Type 0} → Result (Part × Part) E → Result (Span × Span) E
both_of (Ok p) = Ok (part_of p.0, part_of p.1)
both_of (Err e) = Err e

-- The fault of a line that is due at a part: absent where no byte is left.
abbrev pub fault_at : Span → LineFault
fault_at p = cond (length p.0 == 0) (Absent (place_of p)) (Wrong (place_of p))

abbrev pub line_ended : Span → Option Span → Result (Span × Span) LineFault
line_ended p None = Err (fault_at p)
line_ended p (Some rest) = Ok (before 10 p, rest)

-- The first line, without the byte 10 that ends it, and what follows.
abbrev pub line_of : Span → Result (Span × Span) LineFault
line_of p = line_ended p (after 10 p)

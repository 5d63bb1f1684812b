-- Lines that are read by a rule.
use Rattle.std.specs.Prelude.{ℕ, zero, suc, List, [], ◌∷◌, ◌++◌, Some, None, Ok, Err, Option, Result}
use Rattle.text.specs.Parts.{Span, part_of, place_of, line_of}
use Rattle.text.specs.declared.fault.LineFault.{LineFault}
use Rattle.text.specs.declared.fault.LineFault.TheVariants.{Wrong}
use Rattle.text.specs.declared.part.Part.{Part}
use Rattle.entries.specs.Chains.{and_then}

abbrev pub or_wrong : {A : Type 0} → ℕ → Span → Option A → Result (A × Span) LineFault
or_wrong place rest None = Err (Wrong place)
or_wrong place rest (Some x) = Ok (x, rest)

-- what the first line says by a rule, and what follows it
abbrev pub line_by : {A : Type 0} → (Span → Option A) → Span → Result (A × Span) LineFault
line_by rule p = and_then (line_of p) (λ q. or_wrong (place_of p) q.1 (rule q.0))

abbrev pub seen_line : {T A E : Type 0} → (T → A) → Result (T × Part) E → Result (A × Span) E
seen_line said (Ok p) = Ok (said p.0, part_of p.1)
seen_line said (Err e) = Err e

-- after what is read so far, so many lines more
abbrev pub lines_after : {A : Type 0} → (Span → Option A) → List A → ℕ → Span → Result (List A × Span) LineFault
lines_after rule sofar zero p = Ok (sofar, p)
lines_after rule sofar (suc k) p = and_then (line_by rule p) (λ q. lines_after rule (sofar ++ (q.0 ∷ [])) k q.1)

-- so many lines, and what follows them
abbrev pub lines_of : {A : Type 0} → (Span → Option A) → ℕ → Span → Result (List A × Span) LineFault
lines_of rule count p = lines_after rule [] count p

-- a value that stands for itself
abbrev pub same_value : {A : Type 0} → A → A
same_value x = x

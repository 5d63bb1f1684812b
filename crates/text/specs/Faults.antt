-- What a line's fault says.
use Rattle.std.specs.Prelude.{◌≡◌, ℕ, ◌-◌, ◌<◌, ◌≤◌, Bool, true, false, length, MatchBool}
use Rattle.text.specs.declared.fault.LineFault.{LineFault}
use Rattle.text.specs.declared.fault.LineFault.TheVariants.{Absent, Wrong}
use Rattle.text.specs.Parts.{Span}

-- The two cases of a line's fault: absent or wrong, and the place where the line starts or was due.
pub record LineCase : Type 0 where
  pub absent : Bool
  pub place : ℕ

abbrev pub line_case : LineFault → LineCase
line_case (Absent place) = record { absent = true; place = place }
line_case (Wrong place) = record { absent = false; place = place }

abbrev pub fault_place : LineFault → ℕ
fault_place f = (line_case f).place

-- A line that was due in a part starts there, or else at its end, where no byte is left: there it is absent.
abbrev pub StartsIn : Span → LineCase → Type 0
StartsIn p c =
    (p.1 - length p.0 ≤ c.place) × (c.place ≤ p.1)
    × MatchBool c.absent (c.place ≡ p.1) (length p.0 ≤ p.1 → c.place < p.1)

unfoldable pub DueIn : Span → LineFault → Type 0
DueIn p f = StartsIn p (line_case f)

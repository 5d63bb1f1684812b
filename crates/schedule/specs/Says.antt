-- What a reading of the contents says of the bytes.
use Rattle.std.specs.Prelude.{◌≡◌, ℕ, ◌<◌, List, [], ◌∷◌, ◌++◌, take, Ok, Err, Result, ◌≢◌, slice_index_or}
use Rattle.text.specs.declared.fault.LineFault.{LineFault}
use Rattle.text.specs.Parts.{Span, fault_at}
use Rattle.schedule.specs.declared.contents.Contents.{Contents}
use Rattle.entries.specs.Written.{written_lines, line_itself}
use Rattle.schedule.specs.Written.{contents_lines, contents_text, ContentsAllowed}

-- Some lines of some contents stand first, and what is left does not begin with the next line of any contents.
pub record ContentsStop (p : Span) (f : LineFault) : Type 0 where
  pub sofar : Contents
  pub allowed : ContentsAllowed sofar
  pub lines : ℕ
  pub few : lines < 5
  pub tail : List ℕ
  pub stands : p.0 ≡ written_lines line_itself (take lines (contents_lines sofar)) ++ tail
  pub fault : f ≡ fault_at (tail, p.1)
  pub due : (c : Contents) (more : List ℕ) → ContentsAllowed c → tail ≢ slice_index_or (contents_lines c) lines [] ++ (10 ∷ more)

-- Contents that are read are what stands first; those that are refused stand there in no way.
unfoldable pub ContentsSays : Span → Result (Contents × Span) LineFault → Type 0
ContentsSays p (Ok q) = (p.0 ≡ contents_text q.0 ++ q.1.0) × (q.1.1 ≡ p.1) × ContentsAllowed q.0
ContentsSays p (Err f) = ContentsStop p f × ((c : Contents) (more : List ℕ) → ContentsAllowed c → p.0 ≢ contents_text c ++ more)

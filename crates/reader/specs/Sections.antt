-- Sections: so many lines of one kind.
use Rattle.std.specs.Prelude.{ℕ, List, map, Ok, Err, vec_items, Result, Vec}
use Rattle.std.specs.declared.alloc.Global.{Global}
use Rattle.text.specs.Parts.{Span, part_of}
use Rattle.text.specs.declared.part.Part.{Part}
use Rattle.text.specs.declared.fault.LineFault.{LineFault}
use Rattle.notes.specs.declared.wear.Wear.{Wear}
use Rattle.schedule.specs.declared.contents.NoteKind.{NoteKind}
use Rattle.schedule.specs.declared.contents.NoteKind.TheVariants as kinds
use Rattle.entries.specs.Lines.{lines_of}
use Rattle.entries.specs.Notes.{wear_of, label_at}

-- where a section ends
abbrev pub end_of : {A E : Type 0} → Result (A × Span) E → Result Span E
end_of (Ok p) = Ok p.1
end_of (Err e) = Err e

abbrev pub end_seen : {E : Type 0} → Result Part E → Result Span E
end_seen (Ok p) = Ok (part_of p)
end_seen (Err e) = Err e

-- what the lines say, as it stands for it
abbrev pub items_seen : {T A E : Type 0} → (T → A) → Result (Vec T Global × Part) E → Result (List A × Span) E
items_seen said (Ok p) = Ok (map said (vec_items p.0), part_of p.1)
items_seen said (Err e) = Err e

-- What the notes stand for: a label is its bytes and the place where they start.
pub data Noted : Type 0 where
  wears : List Wear → Noted
  labels : List (List ℕ × ℕ) → Noted

-- the same of the first part
abbrev pub first_by : {A B C E : Type 0} → (A → B) → Result (A × C) E → Result (B × C) E
first_by f (Ok p) = Ok (f p.0, p.1)
first_by f (Err e) = Err e

-- The lines of the notes say wear notes or labels, by the kind.
abbrev pub notes_of : NoteKind → ℕ → Span → Result (Noted × Span) LineFault
notes_of kinds.Wear count p = first_by wears (lines_of wear_of count p)
notes_of kinds.Label count p = first_by labels (lines_of label_at count p)

-- A schedule as it is written, and which schedules the format allows.
use Rattle.std.specs.Prelude.{◌≡◌, ℕ, ◌+◌, ◌≤◌, List, [], ◌∷◌, ◌++◌, length}
use Rattle.std.specs.List.{AllByRecursion}
use Rattle.notes.specs.declared.wear.Wear.{Wear}
use Rattle.schedule.specs.declared.contents.NoteKind.{NoteKind}
use Rattle.schedule.specs.declared.contents.NoteKind.TheVariants as kinds
use Rattle.schedule.specs.declared.contents.Contents.{Contents}
use Rattle.entries.specs.declared.event.Event.{Event}
use Rattle.entries.specs.Written.{wear_text, WearAllowed, label_put, label_text, LabelAllowed, event_text, EventAllowed, written_lines}
use Rattle.schedule.specs.Written.{ContentsAllowed, contents_text}
use Rattle.reader.specs.Sections.{Noted, wears, labels}
use Rattle.reader.specs.Files.{Whole}

-- a note without its place: a wear note, or the bytes of a label
abbrev pub Note : NoteKind → Type 0
Note kinds.Wear = Wear
Note kinds.Label = List ℕ

abbrev pub note_text : (kind : NoteKind) → Note kind → List ℕ
note_text kinds.Wear w = wear_text w
note_text kinds.Label bs = label_text bs

abbrev pub NoteAllowed : (kind : NoteKind) → Note kind → Type 0
NoteAllowed kinds.Wear w = WearAllowed w
NoteAllowed kinds.Label bs = LabelAllowed bs

pub record Plan : Type 0 where
  pub contents : Contents
  pub notes : List (Note contents.kind)
  pub events : List Event

-- The file of a schedule: the contents, the lines of the notes, the lines of the events.
abbrev pub written : Plan → List ℕ
written s = contents_text s.contents ++ (written_lines (note_text s.contents.kind) s.notes ++ written_lines event_text s.events)

-- Every number is in its range, and there are as many notes and events as the contents say.
pub record Fine (s : Plan) : Type 0 where
  pub contents : ContentsAllowed s.contents
  pub notes : AllByRecursion (NoteAllowed s.contents.kind) s.notes
  pub all_notes : length s.notes ≡ s.contents.notes
  pub events : AllByRecursion EventAllowed s.events
  pub all_events : length s.events ≡ s.contents.events

-- and its file is not too long
abbrev pub Allowed : Plan → Type 0
Allowed s = Fine s × (length (written s) ≤ 65536)

-- things whose lines stand one after the other from a place on
abbrev pub put_lines : {A B : Type 0} → (ℕ → B → A) → (B → List ℕ) → ℕ → List B → List A
put_lines put text place [] = []
put_lines put text place (b ∷ bs) = put place b ∷ put_lines put text (place + length (text b) + 1) bs

abbrev pub noted_at : (kind : NoteKind) → ℕ → List (Note kind) → Noted
noted_at kinds.Wear place ws = wears ws
noted_at kinds.Label place ls = labels (put_lines label_put label_text place ls)

-- What is answered of a schedule: its labels have the places at which they stand in the file.
abbrev pub answered : Plan → Whole
answered s = record { contents = s.contents; notes = noted_at s.contents.kind (length (contents_text s.contents)) s.notes; events = s.events }

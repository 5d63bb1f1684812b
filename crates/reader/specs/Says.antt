-- What the answers say of the bytes.
use Rattle.std.specs.Prelude.{◌≡◌, ℕ, ◌<◌, ◌≤◌, ◌⊎◌, ◌↔◌, List, [], ◌∷◌, ◌++◌, length, take, Some, None, Ok, Err, Option, Result, MatchOption, ◌≢◌, slice_index_or}
use Rattle.std.specs.List.{AllByRecursion}
use Rattle.text.specs.declared.fault.LineFault.{LineFault}
use Rattle.text.specs.Faults.{fault_place, StartsIn}
use Rattle.text.specs.Parts.{Span, whole_of, fault_at}
use Rattle.schedule.specs.declared.contents.Contents.{Contents}
use Rattle.entries.specs.declared.event.Event.{Event}
use Rattle.faults.specs.declared.BodyFault.TheVariants.{Notes, Events}
use Rattle.faults.specs.declared.FileFault.{FileFault}
use Rattle.faults.specs.declared.FileFault.TheVariants.{Long, Body, Surplus, Contents as InContents}
use Rattle.faults.specs.Faults.{Case, case_of, Together}
use Rattle.entries.specs.Written.{event_text, EventAllowed, written_lines, line_itself}
use Rattle.schedule.specs.Written.{contents_lines, ContentsAllowed, contents_text}
use Rattle.reader.specs.declared.file.Schedule.{Schedule}
use Rattle.reader.specs.declared.file.Unread.{Unread}
use Rattle.reader.specs.declared.file.Unread.TheVariants.{Fault, NoMemory}
use Rattle.reader.specs.Files.{Whole, whole_in}
use Rattle.reader.specs.Written.{Note, note_text, NoteAllowed, Plan, written, Fine, Allowed, answered}

-- Bytes that do not begin with the line of any of these things.
abbrev pub NoLine : {B : Type 0} → (B → List ℕ) → (B → Type 0) → List ℕ → Type 0
NoLine {B} text Ok' tail = (b : B) (more : List ℕ) → Ok' b → tail ≢ text b ++ (10 ∷ more)

-- So many lines of these things stand first, and the rest follows them.
pub record LinesStand {B : Type 0} (text : B → List ℕ) (Ok' : B → Type 0) (count : ℕ) (p : Span) (rest : Span) (things : List B) : Type 0 where
  pub many : length things ≡ count
  pub fine : AllByRecursion Ok' things
  pub stands : p.0 ≡ written_lines text things ++ rest.0
  pub end : rest.1 ≡ p.1

-- Fewer lines stand first, and no such line follows them.
pub record LinesStop {B : Type 0} (text : B → List ℕ) (Ok' : B → Type 0) (count : ℕ) (p : Span) (f : LineFault) : Type 0 where
  pub sofar : List B
  pub few : length sofar < count
  pub fine : AllByRecursion Ok' sofar
  pub tail : List ℕ
  pub stands : p.0 ≡ written_lines text sofar ++ tail
  pub fault : f ≡ fault_at (tail, p.1)
  pub due : NoLine text Ok' tail

-- A section that is accepted is that many lines; one that is refused is not, in any way.
unfoldable pub SectionSays : {B : Type 0} → (B → List ℕ) → (B → Type 0) → ℕ → Span → Result Span LineFault → Type 0
SectionSays {B} text Ok' count p (Ok rest) = (things : List B) × LinesStand text Ok' count p rest things
SectionSays {B} text Ok' count p (Err f) = LinesStop text Ok' count p f × ((rest : Span) (things : List B) → LinesStand text Ok' count p rest things → ⊥)

-- The file is what was read so far and a tail; the line that is due starts there, and is absent if no byte is left.
pub record Breaks (file sofar : List ℕ) (Due : List ℕ → Type 0) (f : LineFault) : Type 0 where
  pub tail : List ℕ
  pub splits : file ≡ sofar ++ tail
  pub place : fault_place f ≡ length sofar
  pub fault : f ≡ fault_at (tail, length file)
  pub due : Due tail

-- Some lines of the contents were read, and the next is the next line of no contents.
pub record BreaksInContents (file : List ℕ) (f : LineFault) : Type 0 where
  pub contents : Contents
  pub allowed : ContentsAllowed contents
  pub lines : ℕ
  pub few : lines < 5
  pub breaks : Breaks file (written_lines line_itself (take lines (contents_lines contents))) (λ tail. (c : Contents) (more : List ℕ) → ContentsAllowed c → tail ≢ slice_index_or (contents_lines c) lines [] ++ (10 ∷ more)) f

-- The contents and some notes were read, and the next line is no note's.
pub record BreaksInNotes (file : List ℕ) (f : LineFault) : Type 0 where
  pub contents : Contents
  pub allowed : ContentsAllowed contents
  pub notes : List (Note contents.kind)
  pub fine : AllByRecursion (NoteAllowed contents.kind) notes
  pub few : length notes < contents.notes
  pub breaks : Breaks file (contents_text contents ++ written_lines (note_text contents.kind) notes) (NoLine (note_text contents.kind) (NoteAllowed contents.kind)) f

-- The contents, all notes and some events were read, and the next line is no event's.
pub record BreaksInEvents (file : List ℕ) (f : LineFault) : Type 0 where
  pub contents : Contents
  pub allowed : ContentsAllowed contents
  pub notes : List (Note contents.kind)
  pub fine_notes : AllByRecursion (NoteAllowed contents.kind) notes
  pub all_notes : length notes ≡ contents.notes
  pub events : List Event
  pub fine : AllByRecursion EventAllowed events
  pub few : length events < contents.events
  pub breaks : Breaks file (contents_text contents ++ (written_lines (note_text contents.kind) notes ++ written_lines event_text events)) (NoLine event_text EventAllowed) f

-- A whole schedule was read, and bytes follow it.
pub record GoesOn (file : List ℕ) (place : ℕ) : Type 0 where
  pub schedule : Plan
  pub fine : Fine schedule
  pub tail : List ℕ
  pub some : 0 < length tail
  pub splits : file ≡ written schedule ++ tail
  pub start : place ≡ length (written schedule)

-- A fault is the first one: all that stands before its place is the written form of what was read so far.
abbrev pub FirstFault : List ℕ → FileFault → Type 0
FirstFault file Long = 65536 < length file
FirstFault file (InContents f) = BreaksInContents file f
FirstFault file (Body (Notes f)) = BreaksInNotes file f
FirstFault file (Body (Events f)) = BreaksInEvents file f
FirstFault file (Surplus place) = GoesOn file place

-- the file is written of this schedule, and of no other
pub record OnlySchedule (file : List ℕ) (w : Whole) : Type 0 where
  pub schedule : Plan
  pub allowed : Allowed schedule
  pub same : w ≡ answered schedule
  pub writes : file ≡ written schedule
  pub only : (s : Plan) → Allowed s → file ≡ written s → w ≡ answered s

-- A file that is accepted is the written form of the schedule that is answered, and of no other;
-- one that is refused is the written form of none.
abbrev pub FileSays : List ℕ → Result Whole FileFault → Type 0
FileSays file (Ok w) = OnlySchedule file w
FileSays file (Err f) = FirstFault file f × ((s : Plan) → Allowed s → file ≢ written s)

-- The same of the answers of a check and of a reading.
unfoldable pub CheckSays : List ℕ → Result Contents FileFault → Type 0
CheckSays file (Ok c) = (w : Whole) × (w.contents ≡ c) × OnlySchedule file w
CheckSays file (Err f) = FileSays file (Err f)

unfoldable pub ReadSays : List ℕ → Result Schedule Unread → Type 0
ReadSays file (Ok s) = OnlySchedule file (whole_in s)
ReadSays file (Err (Fault f)) = FileSays file (Err f)
ReadSays file (Err NoMemory) = (w : Whole) × OnlySchedule file w

-- What the case of a fault says of a file, in numbers. Its cause is 11, and its place 65536, exactly where the file has more
-- than 65,536 bytes; any other place is in the file, or its end; a line that is wrong or absent starts there, absent at
-- the end; bytes that follow the last event stand before it.
pub record CaseOf (file : List ℕ) (c : Case) : Type 0 where
  pub together : Together c.cause c.place c.layer
  pub long : (c.cause ≡ 11) ↔ (65536 < length file)
  pub within : c.cause ≢ 11 → c.place ≤ length file
  pub line : MatchOption c.line
      ((c.cause ≡ 11) ⊎ (c.cause ≡ 14))
      (λ l. (l.place ≡ c.place) × StartsIn (whole_of file) l)
  pub surplus : c.cause ≡ 14 → c.place < length file

-- A file that is read has up to 65,536 bytes.
unfoldable pub CheckCase : List ℕ → Result Contents FileFault → Type 0
CheckCase file (Ok c) = length file ≤ 65536
CheckCase file (Err f) = CaseOf file (case_of f)

-- Why nothing was read: a fault, by its case, or want of memory, which has none.
abbrev pub unread_case : Unread → Option Case
unread_case (Fault f) = Some (case_of f)
unread_case NoMemory = None

-- Memory is wanting for a file that could be read.
unfoldable pub ReadCase : List ℕ → Result Schedule Unread → Type 0
ReadCase file (Ok s) = length file ≤ 65536
ReadCase file (Err u) = MatchOption (unread_case u) (length file ≤ 65536) (CaseOf file)

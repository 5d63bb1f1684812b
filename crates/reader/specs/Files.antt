-- The whole file.
use Rattle.std.specs.Prelude.{◌≡◌, ℕ, true, cond, List, map, length, is_ok, Ok, Err, vec_items, Result, Vec, ◌==◌, nat_lt}
use Rattle.std.specs.declared.alloc.Global.{Global}
use Rattle.labels.specs.Order.{label_of}
use Rattle.text.specs.Parts.{Span, part_of, whole_of, place_of}
use Rattle.text.specs.declared.fault.LineFault.{LineFault}
use Rattle.text.specs.declared.part.Part.{Part}
use Rattle.schedule.specs.declared.contents.Contents.{Contents}
use Rattle.entries.specs.declared.event.Event.{Event}
use Rattle.faults.specs.declared.BodyFault.TheVariants.{Notes, Events}
use Rattle.faults.specs.declared.FileFault.{FileFault}
use Rattle.faults.specs.declared.FileFault.TheVariants.{Long, Body, Surplus, Contents as InContents}
use Rattle.entries.specs.Chains.{and_then, map_err}
use Rattle.entries.specs.Lines.{lines_of}
use Rattle.entries.specs.Events.{event_of}
use Rattle.schedule.specs.Contents.{contents_of}
use Rattle.reader.specs.declared.file.Notes.{Notes as NotesRead}
use Rattle.reader.specs.declared.file.Notes.TheVariants.{Wears, Labels}
use Rattle.reader.specs.declared.file.Schedule.{Schedule}
use Rattle.reader.specs.declared.file.Unread.{Unread}
use Rattle.reader.specs.declared.file.Unread.TheVariants.{Fault, NoMemory}
use Rattle.reader.specs.Sections.{Noted, wears, labels, notes_of}

-- What a schedule stands for.
pub record Whole : Type 0 where
  pub contents : Contents
  pub notes : Noted
  pub events : List Event

abbrev pub noted_in : NotesRead → Noted
noted_in (Wears v) = wears (vec_items v)
noted_in (Labels v) = labels (map label_of (vec_items v))

abbrev pub whole_in : Schedule → Whole
whole_in s = record { contents = s.contents; notes = noted_in s.notes; events = vec_items s.events }

abbrev pub notes_fault : LineFault → FileFault
notes_fault f = Body (Notes f)

abbrev pub events_fault : LineFault → FileFault
events_fault f = Body (Events f)

-- nothing may follow the last event
abbrev pub ended : {A : Type 0} → A → Span → Result A FileFault
ended w rest = cond (length rest.0 == 0) (Ok w) (Err (Surplus (place_of rest)))

-- the contents of a file that is not too long, and what follows them
abbrev pub opening_of : List ℕ → Result (Contents × Span) FileFault
opening_of file = cond (nat_lt 65536 (length file)) (Err Long) (map_err (λ f. InContents f) (contents_of (whole_of file)))

-- The schedule that a file says, or its first fault.
abbrev pub schedule_of : List ℕ → Result Whole FileFault
schedule_of file =
    cond (nat_lt 65536 (length file)) (Err Long)
    (and_then (map_err (λ f. InContents f) (contents_of (whole_of file))) (λ c.
    and_then (map_err notes_fault (notes_of c.0.kind c.0.notes c.1)) (λ n.
    and_then (map_err events_fault (lines_of event_of c.0.events n.1)) (λ e.
    ended (record { contents = c.0; notes = n.0; events = e.0 }) e.1))))

abbrev pub contents_in : Result Whole FileFault → Result Contents FileFault
contents_in (Ok w) = Ok w.contents
contents_in (Err f) = Err f

-- What was read is what the rules give, unless memory was wanting.
abbrev Unless : {A : Type 0} → Unread → Result A FileFault → Type 0
Unless (Fault f) s = s ≡ Err f
Unless NoMemory s = Unit {0}

abbrev pub NotesHold : Result (NotesRead × Part) Unread → Result (Noted × Span) LineFault → Type 0
NotesHold (Ok p) s = s ≡ Ok (noted_in p.0, part_of p.1)
NotesHold (Err e) s = Unless e (map_err notes_fault s)

abbrev pub EventsHold : Result (Vec Event Global × Part) Unread → Result (List Event × Span) LineFault → Type 0
EventsHold (Ok p) s = s ≡ Ok (vec_items p.0, part_of p.1)
EventsHold (Err e) s = Unless e (map_err events_fault s)

abbrev pub Holds : Result Schedule Unread → Result Whole FileFault → Type 0
Holds (Ok r) s = s ≡ Ok (whole_in r)
Holds (Err e) s = Unless e s

-- Memory is wanting only for a file without fault.
abbrev pub Refuses : Unread → Result Whole FileFault → Type 0
Refuses (Fault f) s = s ≡ Err f
Refuses NoMemory s = is_ok s ≡ true

-- The schedule that is answered is what the rules give, and so is the fault.
abbrev pub Answers : Result Schedule Unread → Result Whole FileFault → Type 0
Answers (Ok r) s = s ≡ Ok (whole_in r)
Answers (Err e) s = Refuses e s

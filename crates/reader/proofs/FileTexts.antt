-- The file that is accepted is the written form of its schedule; the first fault stands where what was read ends.
use Rattle.std.proofs.Common.{◌≡◌, ℕ, ◌<◌, ◌≤◌, true, false, eqb, ltb, List, [], ◌++◌, length, take, is_ok, Ok, Err, Result, sym, refl, ap, ◌∙◌, subst, ⊎_elim, append_assoc, append-nil, arith, length-append}
use Rattle.std.proofs.lemmas.Bool.Decides.{nat_tests}
use Rattle.std.proofs.lemmas.List.{nil_from_length}
use Rattle.std.proofs.lemmas.Bool.{cases_Bool, cond-true, cond-false, eqb-true, ltb-true}
use Rattle.std.specs.List.{AllByRecursion}
use Rattle.text.specs.declared.fault.LineFault.{LineFault}
use Rattle.text.specs.declared.fault.LineFault.TheVariants.{Absent, Wrong}
use Rattle.text.specs.Faults.{fault_place}
use Rattle.text.specs.Parts.{Span, whole_of, place_of, fault_at}
use Rattle.schedule.specs.declared.contents.NoteKind.{NoteKind}
use Rattle.schedule.specs.declared.contents.NoteKind.TheVariants as kinds
use Rattle.schedule.specs.declared.contents.Contents.{Contents}
use Rattle.entries.specs.declared.event.Event.{Event}
use Rattle.faults.specs.declared.FileFault.{FileFault}
use Rattle.faults.specs.declared.FileFault.TheVariants.{Long, Surplus, Contents as InContents}
use Rattle.entries.specs.Chains.{and_then, map_err}
use Rattle.entries.specs.Lines.{lines_of}
use Rattle.entries.specs.Notes.{wear_of, label_at}
use Rattle.entries.specs.Events.{event_of}
use Rattle.schedule.specs.Contents.{contents_of}
use Rattle.entries.specs.Written.{anywhere, wear_text, WearAllowed, label_put, label_text, LabelAllowed, event_text, EventAllowed, written_lines, line_itself}
use Rattle.schedule.specs.Says.{ContentsSays}
use Rattle.schedule.specs.Written.{contents_lines, ContentsAllowed, contents_text}
use Rattle.entries.proofs.NoteLaws.{wear_reads, label_reads}
use Rattle.entries.proofs.EventLaws.{event_reads}
use Rattle.schedule.proofs.ContentsWhole.{contents_say, contents_read_back}
use Rattle.reader.specs.declared.file.Schedule.{Schedule}
use Rattle.reader.specs.declared.file.Unread.{Unread}
use Rattle.reader.specs.declared.file.Unread.TheVariants.{Fault, NoMemory}
use Rattle.reader.specs.Sections.{end_of, Noted, wears, labels, first_by, notes_of}
use Rattle.reader.specs.Files.{Whole, whole_in, notes_fault, events_fault, ended, schedule_of, contents_in, Answers}
use Rattle.reader.specs.Written.{Note, note_text, NoteAllowed, Plan, written, Fine, Allowed, noted_at, answered}
use Rattle.reader.specs.Says.{NoLine, LinesStand, LinesStop, Breaks, FirstFault, OnlySchedule, FileSays, SectionSays, CheckSays, ReadSays}
use Rattle.reader.proofs.SectionTexts.{put_anywhere, lines_only, lines_back, lines_stop, section_says}

-- Notes of either kind

first_ok : {A B C E : Type 0} (f : A → B) (s : Result (A × C) E) (r : B × C) → first_by f s ≡ Ok r → (q : A × C) × (s ≡ Ok q) × ((f q.0, q.1) ≡ r)
first_ok f (Ok q) r e = (q, refl, cc)
first_ok f (Err z) r e = absurd (grind arith)

first_err : {A B C E : Type 0} (f : A → B) (s : Result (A × C) E) (z : E) → first_by f s ≡ Err z → s ≡ Err z
first_err f (Ok q) z e = absurd (grind arith)
first_err f (Err y) z e = cc

abbrev ReadNotes : (k : NoteKind) → ℕ → Span → Noted × Span → List (Note k) → Type 0
ReadNotes k count p r ns = LinesStand (note_text k) (NoteAllowed k) count p r.1 ns × (length p.0 ≤ p.1 → r.0 ≡ noted_at k (place_of p) ns)

notes_only : (k : NoteKind) (count : ℕ) (p : Span) (r : Noted × Span) → notes_of k count p ≡ Ok r → (ns : List (Note k)) × ReadNotes k count p r ns
notes_only kinds.Wear count p r e =
    let q = first_ok wears (lines_of wear_of count p) r e in
    let o = lines_only wear_of anywhere wear_text WearAllowed wear_reads [] count p q.0 q.1 in
    let P : Noted × Span → Type 0 = λ r. ReadNotes kinds.Wear count p r o.0 in
    (o.0, subst P q.2 (o.1, λ h. ap wears (o.2 h ∙ put_anywhere wear_text (place_of p) o.0)))
notes_only kinds.Label count p r e =
    let q = first_ok labels (lines_of label_at count p) r e in
    let o = lines_only label_at label_put label_text LabelAllowed label_reads [] count p q.0 q.1 in
    let P : Noted × Span → Type 0 = λ r. ReadNotes kinds.Label count p r o.0 in
    (o.0, subst P q.2 (o.1, λ h. ap labels (o.2 h)))

notes_stop : (k : NoteKind) (count : ℕ) (p : Span) (f : LineFault) → notes_of k count p ≡ Err f → LinesStop (note_text k) (NoteAllowed k) count p f
notes_stop kinds.Wear count p f e = lines_stop wear_of anywhere wear_text WearAllowed wear_reads [] count p f (first_err wears (lines_of wear_of count p) f e)
notes_stop kinds.Label count p f e = lines_stop label_at label_put label_text LabelAllowed label_reads [] count p f (first_err labels (lines_of label_at count p) f e)

notes_back : (k : NoteKind) (ns : List (Note k)) (r : List ℕ) (e : ℕ) → AllByRecursion (NoteAllowed k) ns → length (written_lines (note_text k) ns ++ r) ≤ e
    → notes_of k (length ns) (written_lines (note_text k) ns ++ r, e) ≡ Ok (noted_at k (place_of (written_lines (note_text k) ns ++ r, e)) ns, (r, e))
notes_back kinds.Wear ns r e a h =
    ap (first_by wears) (lines_back wear_of anywhere wear_text WearAllowed wear_reads [] ns r e a h)
    ∙ ap (λ ws. Ok (wears ws, (r, e))) (put_anywhere wear_text _ ns)
notes_back kinds.Label ns r e a h = ap (first_by labels) (lines_back label_at label_put label_text LabelAllowed label_reads [] ns r e a h)

first_end : {A B E : Type 0} (f : A → B) (s : Result (A × Span) E) → end_of (first_by f s) ≡ end_of s
first_end f (Ok q) = refl
first_end f (Err z) = refl

-- Places

fault_place_is : (q : Span) → fault_place (fault_at q) ≡ place_of q
fault_place_is q =
    ⊎_elim (λ y. ap fault_place (cond-true (eqb (length q.0) 0) (Absent (place_of q)) (Wrong (place_of q)) y))
    (λ n. ap fault_place (cond-false (eqb (length q.0) 0) (Absent (place_of q)) (Wrong (place_of q)) n))
    (cases_Bool (eqb (length q.0) 0))

tail_place : (file sofar tail : List ℕ) → file ≡ sofar ++ tail → place_of (tail, length file) ≡ length sofar
tail_place file sofar tail e = let n = ap length e ∙ length-append sofar tail in omega arith

breaks_at : (file sofar tail : List ℕ) (Due : List ℕ → Type 0) (f : LineFault) → file ≡ sofar ++ tail → f ≡ fault_at (tail, length file) → Due tail → Breaks file sofar Due f
breaks_at file sofar tail Due f e fault due = record {
  tail = tail;
  splits = e;
  place = ap fault_place fault ∙ fault_place_is (tail, length file) ∙ tail_place file sofar tail e;
  fault = fault;
  due = due;
}

-- One reading after the other

split_mapped : {A B E F : Type 0} (s : Result A E) (g : E → F) (f : A → Result B F) (P : Result B F → Type 0) → ((x : A) → s ≡ Ok x → P (f x)) → ((e : E) → s ≡ Err e → P (Err (g e))) → P (and_then (map_err g s) f)
split_mapped (Ok x) g f P more ends = more x refl
split_mapped (Err e) g f P more ends = ends e refl

module _ (file : List ℕ) where
  abbrev Says : Result Whole FileFault → Type 0
  Says (Ok w) = (s : Plan) × Fine s × (w ≡ answered s) × (file ≡ written s)
  Says (Err f) = FirstFault file f

  module _ (c : Contents) (a : ContentsAllowed c) where
    module _ (ns : List (Note c.kind)) (fine : AllByRecursion (NoteAllowed c.kind) ns) (many : length ns ≡ c.notes) where
      at_end : (es : List Event) → AllByRecursion EventAllowed es → length es ≡ c.events → (w : Whole) → w ≡ answered (record { contents = c; notes = ns; events = es }) → (q : Span)
          → file ≡ contents_text c ++ (written_lines (note_text c.kind) ns ++ (written_lines event_text es ++ q.0)) → q.1 ≡ length file → Says (ended w q)
      at_end es fits all w same q stands end =
          let s : Plan = record { contents = c; notes = ns; events = es } in
          let good : Fine (record { contents = c; notes = ns; events = es }) = record { contents = a; notes = fine; all_notes = many; events = fits; all_events = all } in
          let whole : file ≡ written (record { contents = c; notes = ns; events = es }) ++ q.0
          = stands ∙ ap (λ t. contents_text c ++ t) (sym (append_assoc (written_lines (note_text c.kind) ns) (written_lines event_text es) q.0))
          ∙ sym (append_assoc (contents_text c) (written_lines (note_text c.kind) ns ++ written_lines event_text es) q.0) in
          ⊎_elim
          (λ y.
          let none : length q.0 ≡ 0 = eqb-true (length q.0) 0 y in
          let empty : q.0 ≡ [] = nil_from_length q.0 none in
          subst Says (sym (cond-true (eqb (length q.0) 0) (Ok w) (Err (Surplus (place_of q))) y))
          (record { contents = c; notes = ns; events = es }, good, same, whole ∙ ap (λ t. written (record { contents = c; notes = ns; events = es }) ++ t) empty ∙ append-nil _))
          (λ n.
          let some : 0 < length q.0 = grind (arith, nat_tests) in
          subst Says (sym (cond-false (eqb (length q.0) 0) (Ok w) (Err (Surplus (place_of q))) n))
          (record {
            schedule = record { contents = c; notes = ns; events = es };
            fine = good;
            tail = q.0;
            some = some;
            splits = whole;
            start = ap (λ e. place_of (q.0, e)) end ∙ tail_place file (written (record { contents = c; notes = ns; events = es })) q.0 whole;
          }))
          (cases_Bool (eqb (length q.0) 0))

      after_notes : (noted : Noted) → noted ≡ noted_at c.kind (length (contents_text c)) ns → (q : Span) → file ≡ contents_text c ++ (written_lines (note_text c.kind) ns ++ q.0) → q.1 ≡ length file
          → Says (and_then (map_err events_fault (lines_of event_of c.events q)) (λ e. ended (record { contents = c; notes = noted; events = e.0 }) e.1))
      after_notes noted same q stands end =
          let len = ap length stands ∙ length-append (contents_text c) (written_lines (note_text c.kind) ns ++ q.0) in
          let len' = length-append (written_lines (note_text c.kind) ns) q.0 in
          let inside : length q.0 ≤ q.1 = omega arith in
          split_mapped (lines_of event_of c.events q) events_fault (λ e. ended (record { contents = c; notes = noted; events = e.0 }) e.1) Says
          (λ r e.
          let o = lines_only event_of anywhere event_text EventAllowed event_reads [] c.events q r e in
          let l = o.1 in
          let values : r.0 ≡ o.0 = o.2 inside ∙ put_anywhere event_text (place_of q) o.0 in
          at_end o.0 l.fine l.many (record { contents = c; notes = noted; events = r.0 }) (λ i. record { contents = c; notes = same i; events = values i }) r.1
          (stands ∙ ap (λ t. contents_text c ++ (written_lines (note_text c.kind) ns ++ t)) l.stands) (l.end ∙ end))
          (λ f e.
          let l = lines_stop event_of anywhere event_text EventAllowed event_reads [] c.events q f e in
          let whole = stands ∙ ap (λ t. contents_text c ++ (written_lines (note_text c.kind) ns ++ t)) l.stands
          ∙ ap (λ t. contents_text c ++ t) (sym (append_assoc (written_lines (note_text c.kind) ns) (written_lines event_text l.sofar) l.tail))
          ∙ sym (append_assoc (contents_text c) (written_lines (note_text c.kind) ns ++ written_lines event_text l.sofar) l.tail) in
          record {
            contents = c;
            allowed = a;
            notes = ns;
            fine_notes = fine;
            all_notes = many;
            events = l.sofar;
            fine = l.fine;
            few = l.few;
            breaks = breaks_at file (contents_text c ++ (written_lines (note_text c.kind) ns ++ written_lines event_text l.sofar)) l.tail (NoLine event_text EventAllowed) f whole (l.fault ∙ ap (λ e. fault_at (l.tail, e)) end) l.due;
          })

    after_contents : (q : Span) → file ≡ contents_text c ++ q.0 → q.1 ≡ length file
        → Says (and_then (map_err notes_fault (notes_of c.kind c.notes q)) (λ n. and_then (map_err events_fault (lines_of event_of c.events n.1)) (λ e. ended (record { contents = c; notes = n.0; events = e.0 }) e.1)))
    after_contents q stands end =
        let len = ap length stands ∙ length-append (contents_text c) q.0 in
        let inside : length q.0 ≤ q.1 = omega arith in
        let place : place_of q ≡ length (contents_text c) = omega arith in
        split_mapped (notes_of c.kind c.notes q) notes_fault (λ n. and_then (map_err events_fault (lines_of event_of c.events n.1)) (λ e. ended (record { contents = c; notes = n.0; events = e.0 }) e.1)) Says
        (λ n e.
        let o = notes_only c.kind c.notes q n e in
        let l = o.1.0 in
        after_notes o.0 l.fine l.many n.0 (o.1.1 inside ∙ ap (λ k. noted_at c.kind k o.0) place) n.1
        (stands ∙ ap (λ t. contents_text c ++ t) l.stands) (l.end ∙ end))
        (λ f e.
        let l = notes_stop c.kind c.notes q f e in
        let whole = stands ∙ ap (λ t. contents_text c ++ t) l.stands ∙ sym (append_assoc (contents_text c) (written_lines (note_text c.kind) l.sofar) l.tail) in
        record {
          contents = c;
          allowed = a;
          notes = l.sofar;
          fine = l.fine;
          few = l.few;
          breaks = breaks_at file (contents_text c ++ written_lines (note_text c.kind) l.sofar) l.tail (NoLine (note_text c.kind) (NoteAllowed c.kind)) f whole (l.fault ∙ ap (λ e. fault_at (l.tail, e)) end) l.due;
        })

  abbrev rest : Contents × Span → Result Whole FileFault
  rest c = and_then (map_err notes_fault (notes_of c.0.kind c.0.notes c.1)) (λ n. and_then (map_err events_fault (lines_of event_of c.0.events n.1)) (λ e. ended (record { contents = c.0; notes = n.0; events = e.0 }) e.1))

  whole_file : Says (and_then (map_err (λ f. InContents f) (contents_of (whole_of file))) rest)
  unfolding ContentsSays
  whole_file =
      split_mapped (contents_of (whole_of file)) (λ f. InContents f) rest Says
      (λ q e. let o = contents_say (whole_of file) (Ok q) (sym e) in after_contents q.0 o.2 q.1 o.0 o.1)
      (λ f e.
      let o = (contents_say (whole_of file) (Err f) (sym e)).0 in
      record {
        contents = o.sofar;
        allowed = o.allowed;
        lines = o.lines;
        few = o.few;
        breaks = breaks_at file (written_lines line_itself (take o.lines (contents_lines o.sofar))) o.tail _ f o.stands o.fault o.due;
      })

  schedule_whole : Says (schedule_of file)
  schedule_whole =
      ⊎_elim
      (λ y. subst Says (sym (cond-true (ltb 65536 (length file)) (Err Long) _ y)) (ltb-true _ _ y))
      (λ n. subst Says (sym (cond-false (ltb 65536 (length file)) (Err Long) _ n)) whole_file)
      (cases_Bool (ltb 65536 (length file)))

-- A schedule that is written is read again.
schedule_back : (s : Plan) → Allowed s → schedule_of (written s) ≡ Ok (answered s)
schedule_back s a =
    let c = s.contents in
    let file = written s in
    let notesPart = written_lines (note_text s.contents.kind) s.notes in
    let eventsPart = written_lines event_text s.events in
    let good = a.0 in
    let short : ltb 65536 (length (written s)) ≡ false = let h = a.1 in grind (arith, nat_tests) in
    let len = length-append (contents_text s.contents) (notesPart ++ eventsPart) in
    let len' = length-append notesPart eventsPart in
    let place : place_of (notesPart ++ eventsPart, length (written s)) ≡ length (contents_text s.contents) = omega arith in
    let noted = notes_back s.contents.kind s.notes eventsPart (length (written s)) good.notes (omega arith) in
    let nothing = append-nil eventsPart in
    let len'' = ap length nothing in
    let events = lines_back event_of anywhere event_text EventAllowed event_reads [] s.events [] (length (written s)) good.events (omega arith) in
    cond-false _ _ _ short
    ∙ ap (λ r. and_then (map_err (λ f. InContents f) r) (rest (written s))) (contents_read_back s.contents (notesPart ++ eventsPart) (length (written s)) good.contents)
    ∙ ap (λ k. and_then (map_err notes_fault (notes_of s.contents.kind k (notesPart ++ eventsPart, length (written s)))) (λ n. and_then (map_err events_fault (lines_of event_of s.contents.events n.1)) (λ e. ended (record { contents = s.contents; notes = n.0; events = e.0 }) e.1))) (sym good.all_notes)
    ∙ ap (λ r. and_then (map_err notes_fault r) (λ n. and_then (map_err events_fault (lines_of event_of s.contents.events n.1)) (λ e. ended (record { contents = s.contents; notes = n.0; events = e.0 }) e.1))) noted
    ∙ ap (λ k. and_then (map_err events_fault (lines_of event_of k (eventsPart, length (written s)))) (λ e. ended (record { contents = s.contents; notes = noted_at s.contents.kind (place_of (notesPart ++ eventsPart, length (written s))) s.notes; events = e.0 }) e.1)) (sym good.all_events)
    ∙ ap (λ r. and_then (map_err events_fault r) (λ e. ended (record { contents = s.contents; notes = noted_at s.contents.kind (place_of (notesPart ++ eventsPart, length (written s))) s.notes; events = e.0 }) e.1)) (ap (λ t. lines_of event_of (length s.events) (t, length (written s))) (sym nothing) ∙ events)
    ∙ (λ i. Ok (record { contents = s.contents; notes = noted_at s.contents.kind (place i) s.notes; events = put_anywhere event_text (place_of (eventsPart ++ [], length (written s))) s.events i }))

pub not_long : (file : List ℕ) (w : Whole) → schedule_of file ≡ Ok w → length file ≤ 65536
not_long file w e =
    ⊎_elim
    (λ y. let z = sym (cond-true (ltb 65536 (length file)) (Err Long) _ y) ∙ e in absurd (grind arith))
    (λ n. grind (arith, nat_tests))
    (cases_Bool (ltb 65536 (length file)))

says_with : (file : List ℕ) (r : Result Whole FileFault) → r ≡ schedule_of file → Says file r → FileSays file r
says_with file (Ok w) e s = record {
  schedule = s.0;
  allowed = (s.1, let n = ap length s.3 in let h = not_long file w (sym e) in omega arith);
  same = s.2;
  writes = s.3;
  only = λ t a h. let q : Ok w ≡ Ok (answered t) = e ∙ ap schedule_of h ∙ schedule_back t a in cc;
}
says_with file (Err f) e s = (s, λ t a h. let z = e ∙ ap schedule_of h ∙ schedule_back t a in absurd (grind arith))

pub file_says : (file : List ℕ) (r : Result Whole FileFault) → r ≡ schedule_of file → FileSays file r
file_says file r e = says_with file r e (subst (Says file) (sym e) (schedule_whole file))

pub notes_say : (k : NoteKind) (count : ℕ) (p : Span) (r : Result Span LineFault) → r ≡ end_of (notes_of k count p) → SectionSays (note_text k) (NoteAllowed k) count p r
notes_say kinds.Wear count p r e = section_says wear_of anywhere wear_text WearAllowed wear_reads count p (lines_of wear_of count p) r refl (e ∙ first_end wears (lines_of wear_of count p))
notes_say kinds.Label count p r e = section_says label_at label_put label_text LabelAllowed label_reads count p (lines_of label_at count p) r refl (e ∙ first_end labels (lines_of label_at count p))

pub events_say : (count : ℕ) (p : Span) (r : Result Span LineFault) → r ≡ end_of (lines_of event_of count p) → SectionSays event_text EventAllowed count p r
events_say count p r e = section_says event_of anywhere event_text EventAllowed event_reads count p (lines_of event_of count p) r refl e

check_with : (file : List ℕ) (s : Result Whole FileFault) (r : Result Contents FileFault) → r ≡ contents_in s → FileSays file s → CheckSays file r
unfolding CheckSays
check_with file (Ok w) (Ok c) e h = (w, cc, h)
check_with file (Ok w) (Err f) e h = absurd (grind arith)
check_with file (Err g) (Ok c) e h = absurd (grind arith)
check_with file (Err g) (Err f) e h = let q : g ≡ f = cc in subst (λ f. FileSays file (Err f)) q h

pub check_says : (file : List ℕ) (r : Result Contents FileFault) → r ≡ contents_in (schedule_of file) → CheckSays file r
check_says file r e = check_with file (schedule_of file) r e (file_says file (schedule_of file) refl)

unread_with : (file : List ℕ) (s : Result Whole FileFault) → is_ok s ≡ true → FileSays file s → (w : Whole) × OnlySchedule file w
unread_with file (Ok w) e h = (w, h)
unread_with file (Err f) e h = absurd (grind arith)

pub read_says : (file : List ℕ) (r : Result Schedule Unread) → Answers r (schedule_of file) → ReadSays file r
unfolding ReadSays
read_says file (Ok s) a = file_says file (Ok (whole_in s)) (sym a)
read_says file (Err (Fault f)) a = file_says file (Err f) (sym a)
read_says file (Err NoMemory) a = unread_with file (schedule_of file) a (file_says file (schedule_of file) refl)

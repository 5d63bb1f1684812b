-- What the cases of the answers say of the file, and of the part in which a line was due.
use Rattle.std.proofs.Common.{◌≡◌, ℕ, ◌<◌, ◌≤◌, true, ltb, List, [], length, is_ok, Ok, Err, Option, Result, sym, refl, ap, ◌∙◌, inl, inr, arith, length-append}
use Rattle.std.specs.Prelude.{IfErr}
use Rattle.std.proofs.lemmas.Bool.Decides.{nat_tests}
use Rattle.std.proofs.lemmas.Bool.{cond-true}
use Rattle.text.specs.declared.fault.LineFault.{LineFault}
use Rattle.text.specs.declared.part.Part.{Part}
use Rattle.text.specs.Faults.{line_case, StartsIn, DueIn}
use Rattle.text.specs.Parts.{Span, whole_of}
use Rattle.schedule.specs.declared.contents.Contents.{Contents}
use Rattle.faults.specs.declared.BodyFault.TheVariants.{Notes, Events}
use Rattle.faults.specs.declared.FileFault.{FileFault}
use Rattle.faults.specs.declared.FileFault.TheVariants.{Long, Body, Surplus, Contents as InContents}
use Rattle.faults.specs.Faults.{case_of}
use Rattle.entries.specs.Lines.{lines_of}
use Rattle.entries.specs.Notes.{wear_of, label_at}
use Rattle.entries.specs.Events.{event_of}
use Rattle.entries.specs.Written.{ReadsWritten, anywhere, wear_text, WearAllowed, label_put, label_text, LabelAllowed, event_text, EventAllowed, written_lines}
use Rattle.entries.proofs.DueLaws.{due_at}
use Rattle.entries.proofs.NoteLaws.{wear_reads, label_reads}
use Rattle.entries.proofs.EventLaws.{event_reads}
use Rattle.reader.specs.declared.file.Schedule.{Schedule}
use Rattle.reader.specs.declared.file.Unread.{Unread}
use Rattle.reader.specs.declared.file.Unread.TheVariants.{Fault, NoMemory}
use Rattle.reader.specs.Sections.{end_of, end_seen}
use Rattle.reader.specs.Files.{Whole, schedule_of, contents_in, Answers}
use Rattle.reader.specs.Written.{written}
use Rattle.reader.specs.Says.{Breaks, FirstFault, CaseOf, CheckCase, ReadCase}
use Rattle.reader.proofs.SectionTexts.{lines_stop}
use Rattle.reader.proofs.FileTexts.{not_long, file_says}

-- Sections

end_err : {A : Type 0} (s : Result (A × Span) LineFault) (f : LineFault) → Err f ≡ end_of s → s ≡ Err f
end_err (Ok q) f e = absurd (grind arith)
end_err (Err g) f e = let q : f ≡ g = cc in ap (λ h. Err h) (sym q)

module _ {A B : Type 0} (rule : Span → Option A) (put : ℕ → B → A) (text : B → List ℕ) (Fit : B → Type 0) (w : ReadsWritten rule put text Fit) where
  section_due : (count : ℕ) (p : Span) (r : Result Part LineFault) → end_seen r ≡ end_of (lines_of rule count p) → IfErr r (DueIn p)
  section_due count p (Ok q) e = tt
  section_due count p (Err f) e =
      let s = lines_stop rule put text Fit w [] count p f (end_err (lines_of rule count p) f e) in
      due_at p (written_lines text s.sofar) s.tail f s.stands s.fault

pub wears_due : (count : ℕ) (p : Span) (r : Result Part LineFault) → end_seen r ≡ end_of (lines_of wear_of count p) → IfErr r (DueIn p)
wears_due = section_due wear_of anywhere wear_text WearAllowed wear_reads

pub labels_due : (count : ℕ) (p : Span) (r : Result Part LineFault) → end_seen r ≡ end_of (lines_of label_at count p) → IfErr r (DueIn p)
labels_due = section_due label_at label_put label_text LabelAllowed label_reads

pub events_due : (count : ℕ) (p : Span) (r : Result Part LineFault) → end_seen r ≡ end_of (lines_of event_of count p) → IfErr r (DueIn p)
events_due = section_due event_of anywhere event_text EventAllowed event_reads

-- Files

too_long : (file : List ℕ) → 65536 < length file → schedule_of file ≡ Err Long
too_long file h = let y : ltb 65536 (length file) ≡ true = grind (arith, nat_tests) in cond-true _ _ _ y

-- where a line of a file is wrong or absent
starts : (file sofar : List ℕ) (Due : List ℕ → Type 0) (f : LineFault) → Breaks file sofar Due f → StartsIn (whole_of file) (line_case f)
unfolding DueIn
starts file sofar Due f b = due_at (whole_of file) sofar b.tail f b.splits b.fault

fault_case : (file : List ℕ) (f : FileFault) → FirstFault file f → (65536 < length file → f ≡ Long) → CaseOf file (case_of f)
fault_case file Long s h = record {
  together = inl (refl, refl);
  long = (λ e. s, λ l. refl);
  within = λ n. absurd (n refl);
  line = inl refl;
  surplus = λ e. absurd (omega arith);
}
fault_case file (InContents f) s h =
    let d = starts file _ _ f s.breaks in
    record {
      together = refl;
      long = (λ e. absurd (omega arith), λ l. let q = h l in absurd (grind arith));
      within = λ n. d.1;
      line = (refl, d);
      surplus = λ e. absurd (omega arith);
    }
fault_case file (Body (Notes f)) s h =
    let d = starts file _ _ f s.breaks in
    record {
      together = refl;
      long = (λ e. absurd (omega arith), λ l. let q = h l in absurd (grind arith));
      within = λ n. d.1;
      line = (refl, d);
      surplus = λ e. absurd (omega arith);
    }
fault_case file (Body (Events f)) s h =
    let d = starts file _ _ f s.breaks in
    record {
      together = refl;
      long = (λ e. absurd (omega arith), λ l. let q = h l in absurd (grind arith));
      within = λ n. d.1;
      line = (refl, d);
      surplus = λ e. absurd (omega arith);
    }
fault_case file (Surplus place) s h =
    let n = ap length s.splits ∙ length-append (written s.schedule) s.tail in
    let some = s.some in
    let start = s.start in
    record {
      together = inr refl;
      long = (λ e. absurd (omega arith), λ l. let q = h l in absurd (grind arith));
      within = λ e. omega arith;
      line = inr refl;
      surplus = λ e. omega arith;
    }

first_case : (file : List ℕ) (f : FileFault) → schedule_of file ≡ Err f → CaseOf file (case_of f)
first_case file f e =
    fault_case file f (file_says file (Err f) (sym e)).0 (λ h. let q : Err Long ≡ Err f = sym (too_long file h) ∙ e in cc)

check_with : (file : List ℕ) (s : Result Whole FileFault) (r : Result Contents FileFault) → schedule_of file ≡ s → r ≡ contents_in s → CheckCase file r
unfolding CheckCase
check_with file (Ok w) (Ok c) e h = not_long file w e
check_with file (Ok w) (Err f) e h = absurd (grind arith)
check_with file (Err g) (Ok c) e h = absurd (grind arith)
check_with file (Err g) (Err f) e h = let q : Err g ≡ Err f = cc in first_case file f (e ∙ q)

pub check_case : (file : List ℕ) (r : Result Contents FileFault) → r ≡ contents_in (schedule_of file) → CheckCase file r
check_case file r e = check_with file (schedule_of file) r refl e

good_not_long : (file : List ℕ) (s : Result Whole FileFault) → schedule_of file ≡ s → is_ok s ≡ true → length file ≤ 65536
good_not_long file (Ok w) e h = not_long file w e
good_not_long file (Err f) e h = absurd (grind arith)

pub read_case : (file : List ℕ) (r : Result Schedule Unread) → Answers r (schedule_of file) → ReadCase file r
unfolding ReadCase
read_case file (Ok s) a = not_long file _ a
read_case file (Err (Fault f)) a = first_case file f a
read_case file (Err NoMemory) a = good_not_long file (schedule_of file) refl a

-- The contents that are read are those that stand there, and none stand where they are refused.
use Rattle.std.proofs.Common.{◌≡◌, ℕ, ◌<◌, false, List, [], ◌∷◌, ◌++◌, get_or, take, Ok, Err, codes, Option, Result, sym, refl, ap, ◌∙◌, subst, append_assoc, arith}
use Rattle.text.specs.declared.fault.LineFault.{LineFault}
use Rattle.text.specs.Faults.{DueIn}
use Rattle.text.specs.Parts.{Span, fault_at}
use Rattle.schedule.specs.declared.contents.NoteKind.{NoteKind}
use Rattle.schedule.specs.declared.contents.NoteKind.TheVariants.{Wear}
use Rattle.schedule.specs.declared.contents.BroadcastPart.TheVariants.{Relay}
use Rattle.schedule.specs.declared.contents.ConsensusPart.TheVariants.{Flood}
use Rattle.schedule.specs.declared.contents.Pile.{Pile}
use Rattle.schedule.specs.declared.contents.Contents.{Contents}
use Rattle.entries.specs.Chains.{and_then}
use Rattle.entries.specs.Lines.{line_by}
use Rattle.schedule.specs.Contents.{kind_of, count_of, pile_of, contents_of}
use Rattle.entries.specs.Written.{ReadsWritten, anywhere, written_lines, line_itself}
use Rattle.schedule.specs.Written.{Always, Between, kind_text, count_text, pile_text, contents_lines, ContentsAllowed, contents_text}
use Rattle.schedule.specs.Says.{ContentsStop, ContentsSays}
use Rattle.entries.proofs.DueLaws.{due_at}
use Rattle.entries.proofs.RuleLaws.{one_only, one_back, one_fault, one_due}
use Rattle.schedule.proofs.ContentsLaws.{kind_reads, cards_read, pile_reads, notes_read, events_read}

-- The readings, one after the other
abbrev with_events : NoteKind → ℕ → Pile → ℕ → ℕ × Span → Result (Contents × Span) LineFault
with_events k c p n e = Ok (record { kind = k; cards = c; pile = p; notes = n; events = e.0 }, e.1)

abbrev with_notes : NoteKind → ℕ → Pile → ℕ × Span → Result (Contents × Span) LineFault
with_notes k c p n = and_then (line_by (count_of (codes "events") 0 4096) n.1) (with_events k c p n.0)

abbrev with_pile : NoteKind → ℕ → Pile × Span → Result (Contents × Span) LineFault
with_pile k c p = and_then (line_by (count_of (codes "notes") 0 32) p.1) (with_notes k c p.0)

abbrev with_cards : NoteKind → ℕ × Span → Result (Contents × Span) LineFault
with_cards k c = and_then (line_by pile_of c.1) (with_pile k c.0)

abbrev with_kind : NoteKind × Span → Result (Contents × Span) LineFault
with_kind k = and_then (line_by (count_of (codes "cards") 1 6) k.1) (with_cards k.0)

-- lines, and then a tail
abbrev lines_then : List (List ℕ) → List ℕ → List ℕ
lines_then [] tail = tail
lines_then (l ∷ ls) tail = l ++ (10 ∷ lines_then ls tail)

lines_then_written : (ls : List (List ℕ)) (tail : List ℕ) → lines_then ls tail ≡ written_lines line_itself ls ++ tail
lines_then_written [] tail = refl
lines_then_written (l ∷ ls) tail = ap (λ t. l ++ (10 ∷ t)) (lines_then_written ls tail) ∙ sym (append_assoc l (10 ∷ written_lines line_itself ls) tail)

-- one line is read: the value itself, what stands, and that the end stays
module _ {A : Type 0} (rule : Span → Option A) (text : A → List ℕ) (Allowed : A → Type 0) (w : ReadsWritten rule anywhere text Allowed) where
  read_one : (p : Span) (q : A × Span) → line_by rule p ≡ Ok q → (p.0 ≡ text q.0 ++ (10 ∷ q.1.0)) × (q.1.1 ≡ p.1) × Allowed q.0
  read_one p q e =
      let o = one_only rule anywhere text Allowed w p q e in
      let same : o.0 ≡ q.0 = sym o.1.0 in
      (o.1.1 ∙ ap (λ x. text x ++ (10 ∷ q.1.0)) same, o.1.2, subst Allowed same o.1.3)

kind_one : (p : Span) (q : NoteKind × Span) → line_by kind_of p ≡ Ok q → (p.0 ≡ kind_text q.0 ++ (10 ∷ q.1.0)) × (q.1.1 ≡ p.1) × Always q.0
kind_one = read_one kind_of kind_text Always kind_reads

cards_one : (p : Span) (q : ℕ × Span) → line_by (count_of (codes "cards") 1 6) p ≡ Ok q → (p.0 ≡ count_text (codes "cards") q.0 ++ (10 ∷ q.1.0)) × (q.1.1 ≡ p.1) × Between 1 6 q.0
cards_one = read_one (count_of (codes "cards") 1 6) (count_text (codes "cards")) (Between 1 6) cards_read

pile_one : (p : Span) (q : Pile × Span) → line_by pile_of p ≡ Ok q → (p.0 ≡ pile_text q.0 ++ (10 ∷ q.1.0)) × (q.1.1 ≡ p.1) × Always q.0
pile_one = read_one pile_of pile_text Always pile_reads

notes_one : (p : Span) (q : ℕ × Span) → line_by (count_of (codes "notes") 0 32) p ≡ Ok q → (p.0 ≡ count_text (codes "notes") q.0 ++ (10 ∷ q.1.0)) × (q.1.1 ≡ p.1) × Between 0 32 q.0
notes_one = read_one (count_of (codes "notes") 0 32) (count_text (codes "notes")) (Between 0 32) notes_read

events_one : (p : Span) (q : ℕ × Span) → line_by (count_of (codes "events") 0 4096) p ≡ Ok q → (p.0 ≡ count_text (codes "events") q.0 ++ (10 ∷ q.1.0)) × (q.1.1 ≡ p.1) × Between 0 4096 q.0
events_one = read_one (count_of (codes "events") 0 4096) (count_text (codes "events")) (Between 0 4096) events_read

-- a reading that goes on, and one that ends
split : {A B E : Type 0} (s : Result A E) (f : A → Result B E) (P : Result B E → Type 0) → ((x : A) → s ≡ Ok x → P (f x)) → ((e : E) → s ≡ Err e → P (Err e)) → P (and_then s f)
split (Ok x) f P more ends = more x refl
split (Err e) f P more ends = ends e refl

module _ (p : Span) where
  -- a line that is wrong, after some that were read
  stop : (f : LineFault) (sofar : Contents) → ContentsAllowed sofar → (n : ℕ) → n < 5 → (q : Span) → p.0 ≡ lines_then (take n (contents_lines sofar)) q.0 → q.1 ≡ p.1 → f ≡ fault_at q
      → ((c : Contents) (more : List ℕ) → ContentsAllowed c → q.0 ≡ get_or (contents_lines c) n [] ++ (10 ∷ more) → ⊥) → ContentsStop p f
  stop f sofar a n few q stands end fault due = record {
    sofar = sofar;
    allowed = a;
    lines = n;
    few = few;
    tail = q.0;
    stands = stands ∙ lines_then_written (take n (contents_lines sofar)) q.0;
    fault = fault ∙ ap (λ e. fault_at (q.0, e)) end;
    due = due;
  }

  -- what the readings make of the contents, one line after the other; a line that is not reached is any
  abbrev Whole : Result (Contents × Span) LineFault → Type 0
  Whole (Ok q) = (p.0 ≡ contents_text q.0 ++ q.1.0) × (q.1.1 ≡ p.1) × ContentsAllowed q.0
  Whole (Err f) = ContentsStop p f

  abbrev any_pile : Pile
  any_pile = record { in_turn = false; broadcast = Relay; consensus = Flood }

  after_events : (c : Contents) (q : Span) → p.0 ≡ lines_then (contents_lines c) q.0 → q.1 ≡ p.1 → ContentsAllowed c → Whole (Ok (c, q))
  after_events c q stands end a = (stands ∙ lines_then_written (contents_lines c) q.0, end, a)

  after_notes : (k : NoteKind) (c : ℕ) (l : Pile) (n : ℕ) (q : Span) → p.0 ≡ lines_then (kind_text k ∷ count_text (codes "cards") c ∷ pile_text l ∷ count_text (codes "notes") n ∷ []) q.0 → q.1 ≡ p.1
      → Between 1 6 c → Between 0 32 n → Whole (with_notes k c l (n, q))
  after_notes k c l n q stands end cs ns =
      split (line_by (count_of (codes "events") 0 4096) q) (with_events k c l n) Whole
      (λ v e.
      let o = events_one q v e in
      after_events (record { kind = k; cards = c; pile = l; notes = n; events = v.0 }) v.1
      (stands ∙ ap (lines_then (kind_text k ∷ count_text (codes "cards") c ∷ pile_text l ∷ count_text (codes "notes") n ∷ [])) o.0) (o.1 ∙ end) (cs, ns, o.2))
      (λ f e.
      stop f (record { kind = k; cards = c; pile = l; notes = n; events = 0 }) (cs, ns, (omega arith, omega arith)) 4 (omega arith) q stands end
      (one_fault (count_of (codes "events") 0 4096) anywhere (count_text (codes "events")) (Between 0 4096) events_read q f e)
      (λ d more a. one_due (count_of (codes "events") 0 4096) anywhere (count_text (codes "events")) (Between 0 4096) events_read q f e d.events more a.2))

  after_pile : (k : NoteKind) (c : ℕ) (l : Pile) (q : Span) → p.0 ≡ lines_then (kind_text k ∷ count_text (codes "cards") c ∷ pile_text l ∷ []) q.0 → q.1 ≡ p.1
      → Between 1 6 c → Whole (with_pile k c (l, q))
  after_pile k c l q stands end cs =
      split (line_by (count_of (codes "notes") 0 32) q) (with_notes k c l) Whole
      (λ n e.
      let o = notes_one q n e in
      after_notes k c l n.0 n.1 (stands ∙ ap (lines_then (kind_text k ∷ count_text (codes "cards") c ∷ pile_text l ∷ [])) o.0) (o.1 ∙ end) cs o.2)
      (λ f e.
      stop f (record { kind = k; cards = c; pile = l; notes = 0; events = 0 }) (cs, (omega arith, omega arith), (omega arith, omega arith)) 3 (omega arith) q stands end
      (one_fault (count_of (codes "notes") 0 32) anywhere (count_text (codes "notes")) (Between 0 32) notes_read q f e)
      (λ d more a. one_due (count_of (codes "notes") 0 32) anywhere (count_text (codes "notes")) (Between 0 32) notes_read q f e d.notes more a.1))

  after_cards : (k : NoteKind) (c : ℕ) (q : Span) → p.0 ≡ lines_then (kind_text k ∷ count_text (codes "cards") c ∷ []) q.0 → q.1 ≡ p.1 → Between 1 6 c → Whole (with_cards k (c, q))
  after_cards k c q stands end cs =
      split (line_by pile_of q) (with_pile k c) Whole
      (λ l e. let o = pile_one q l e in after_pile k c l.0 l.1 (stands ∙ ap (lines_then (kind_text k ∷ count_text (codes "cards") c ∷ [])) o.0) (o.1 ∙ end) cs)
      (λ f e.
      stop f (record { kind = k; cards = c; pile = any_pile; notes = 0; events = 0 }) (cs, (omega arith, omega arith), (omega arith, omega arith)) 2 (omega arith) q stands end
      (one_fault pile_of anywhere pile_text Always pile_reads q f e)
      (λ d more a. one_due pile_of anywhere pile_text Always pile_reads q f e d.pile more tt))

  after_kind : (k : NoteKind) (q : Span) → p.0 ≡ lines_then (kind_text k ∷ []) q.0 → q.1 ≡ p.1 → Whole (with_kind (k, q))
  after_kind k q stands end =
      split (line_by (count_of (codes "cards") 1 6) q) (with_cards k) Whole
      (λ c e. let o = cards_one q c e in after_cards k c.0 c.1 (stands ∙ ap (lines_then (kind_text k ∷ [])) o.0) (o.1 ∙ end) o.2)
      (λ f e.
      stop f (record { kind = k; cards = 1; pile = any_pile; notes = 0; events = 0 }) ((omega arith, omega arith), (omega arith, omega arith), (omega arith, omega arith)) 1 (omega arith) q stands end
      (one_fault (count_of (codes "cards") 1 6) anywhere (count_text (codes "cards")) (Between 1 6) cards_read q f e)
      (λ d more a. one_due (count_of (codes "cards") 1 6) anywhere (count_text (codes "cards")) (Between 1 6) cards_read q f e d.cards more a.0))

  contents_whole : Whole (contents_of p)
  contents_whole =
      split (line_by kind_of p) with_kind Whole
      (λ k e. let o = kind_one p k e in after_kind k.0 k.1 o.0 o.1)
      (λ f e.
      stop f (record { kind = Wear; cards = 1; pile = any_pile; notes = 0; events = 0 }) ((omega arith, omega arith), (omega arith, omega arith), (omega arith, omega arith)) 0 (omega arith) p refl refl
      (one_fault kind_of anywhere kind_text Always kind_reads p f e)
      (λ d more a. one_due kind_of anywhere kind_text Always kind_reads p f e d.kind more tt))

contents_back : (c : Contents) (r : List ℕ) (e : ℕ) → ContentsAllowed c → contents_of (lines_then (contents_lines c) r, e) ≡ Ok (c, (r, e))
contents_back c r e a =
    let events = count_text (codes "events") c.events ++ (10 ∷ r) in
    let notes = count_text (codes "notes") c.notes ++ (10 ∷ events) in
    let pile = pile_text c.pile ++ (10 ∷ notes) in
    let cards = count_text (codes "cards") c.cards ++ (10 ∷ pile) in
    ap (λ s. and_then s with_kind) (one_back kind_of anywhere kind_text Always kind_reads c.kind cards e tt)
    ∙ ap (λ s. and_then s (with_cards c.kind)) (one_back (count_of (codes "cards") 1 6) anywhere (count_text (codes "cards")) (Between 1 6) cards_read c.cards pile e a.0)
    ∙ ap (λ s. and_then s (with_pile c.kind c.cards)) (one_back pile_of anywhere pile_text Always pile_reads c.pile notes e tt)
    ∙ ap (λ s. and_then s (with_notes c.kind c.cards c.pile)) (one_back (count_of (codes "notes") 0 32) anywhere (count_text (codes "notes")) (Between 0 32) notes_read c.notes events e a.1)
    ∙ ap (λ s. and_then s (with_events c.kind c.cards c.pile c.notes)) (one_back (count_of (codes "events") 0 4096) anywhere (count_text (codes "events")) (Between 0 4096) events_read c.events r e a.2)

pub contents_read_back : (c : Contents) (r : List ℕ) (e : ℕ) → ContentsAllowed c → contents_of (contents_text c ++ r, e) ≡ Ok (c, (r, e))
contents_read_back c r e a = ap (λ t. contents_of (t, e)) (sym (lines_then_written (contents_lines c) r)) ∙ contents_back c r e a

says_with : (p : Span) (r : Result (Contents × Span) LineFault) → r ≡ contents_of p → Whole p r → ContentsSays p r
unfolding ContentsSays
says_with p (Ok q) e w = w
says_with p (Err f) e w = (
  w,
  λ c more a s. let z = e ∙ ap (λ t. contents_of (t, p.1)) s ∙ contents_read_back c more p.1 a in absurd (grind arith),
)

pub contents_say : (p : Span) (r : Result (Contents × Span) LineFault) → r ≡ contents_of p → ContentsSays p r
contents_say p r e = says_with p r e (subst (Whole p) (sym e) (contents_whole p))

due_with : (p : Span) (f : LineFault) → ContentsSays p (Err f) → DueIn p f
unfolding ContentsSays
due_with p f s = due_at p (written_lines line_itself (take s.0.lines (contents_lines s.0.sofar))) s.0.tail f s.0.stands s.0.fault

pub contents_due : (p : Span) (f : LineFault) → Err f ≡ contents_of p → DueIn p f
contents_due p f e = due_with p f (contents_say p (Err f) e)

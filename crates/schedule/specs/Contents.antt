-- Which lines say which contents.
use Rattle.std.specs.Prelude.{ℕ, Bool, true, false, cond, ◌&&◌, List, [], ◌∷◌, Some, None, Ok, codes, Option, Result, nat_le}
use Rattle.text.specs.declared.fault.LineFault.{LineFault}
use Rattle.text.specs.Parts.{Span}
use Rattle.text.specs.Fields.{Cut, cut_fields, is_word, number_in}
use Rattle.schedule.specs.declared.contents.NoteKind.{NoteKind}
use Rattle.schedule.specs.declared.contents.NoteKind.TheVariants.{Wear, Label}
use Rattle.schedule.specs.declared.contents.BroadcastPart.{BroadcastPart}
use Rattle.schedule.specs.declared.contents.BroadcastPart.TheVariants.{Relay, AllAck, Board}
use Rattle.schedule.specs.declared.contents.ConsensusPart.{ConsensusPart}
use Rattle.schedule.specs.declared.contents.ConsensusPart.TheVariants.{Flood, Register}
use Rattle.schedule.specs.declared.contents.Pile.{Pile}
use Rattle.schedule.specs.declared.contents.Contents.{Contents}
use Rattle.entries.specs.Chains.{bind, and_then, of_two}
use Rattle.entries.specs.Lines.{line_by}

abbrev pub kind_in : Cut → Option NoteKind
kind_in f = cond (is_word (codes "wear") f) (Some Wear) (cond (is_word (codes "label") f) (Some Label) None)

abbrev pub broadcast_in : Cut → Option BroadcastPart
broadcast_in f =
    cond (is_word (codes "relay") f) (Some Relay)
    (cond (is_word (codes "allack") f) (Some AllAck)
    (cond (is_word (codes "board") f) (Some Board) None))

abbrev pub consensus_in : Cut → Option ConsensusPart
consensus_in f = cond (is_word (codes "flood") f) (Some Flood) (cond (is_word (codes "register") f) (Some Register) None)

abbrev pub pile_in : Bool → Cut → Cut → Option Pile
pile_in turn lower upper = bind (broadcast_in lower) (λ b. bind (consensus_in upper) (λ c. Some (record { in_turn = turn; broadcast = b; consensus = c })))

-- a number from `least` to `most`
abbrev pub count_in : ℕ → ℕ → Cut → Option ℕ
count_in least most f = bind (number_in most f) (λ n. cond (nat_le least n) (Some n) None)

-- a key word and what its field says
abbrev pub keyed : {A : Type 0} → List ℕ → (Cut → Option A) → List Cut → Option A
keyed key rule = of_two (λ k f. cond (is_word key k) (rule f) None)

abbrev pub pile_from : List Cut → Option Pile
pile_from [] = None
pile_from (a ∷ []) = None
pile_from (a ∷ b ∷ []) = None
pile_from (a ∷ b ∷ c ∷ []) = cond (is_word (codes "pile") a) (pile_in false b c) None
pile_from (a ∷ b ∷ c ∷ d ∷ []) = cond (is_word (codes "pile") a && is_word (codes "inturn") b) (pile_in true c d) None
pile_from (a ∷ b ∷ c ∷ d ∷ e ∷ fs) = None

abbrev pub kind_of : Span → Option NoteKind
kind_of line = bind (cut_fields 4 line) (keyed (codes "kind") kind_in)

abbrev pub count_of : List ℕ → ℕ → ℕ → Span → Option ℕ
count_of key least most line = bind (cut_fields 4 line) (keyed key (count_in least most))

abbrev pub pile_of : Span → Option Pile
pile_of line = bind (cut_fields 4 line) pile_from

-- The five lines of the contents, and what follows them.
abbrev pub contents_of : Span → Result (Contents × Span) LineFault
contents_of file =
    and_then (line_by kind_of file) (λ k.
    and_then (line_by (count_of (codes "cards") 1 6) k.1) (λ c.
    and_then (line_by pile_of c.1) (λ p.
    and_then (line_by (count_of (codes "notes") 0 32) p.1) (λ n.
    and_then (line_by (count_of (codes "events") 0 4096) n.1) (λ e.
    Ok (record { kind = k.0; cards = c.0; pile = p.0; notes = n.0; events = e.0 }, e.1))))))

-- How the contents are written, and which contents the format allows.
use Rattle.std.specs.Prelude.{ℕ, ◌≤◌, cond, List, [], ◌∷◌, codes, decimal}
use Rattle.text.specs.Written.{spaced}
use Rattle.schedule.specs.declared.contents.NoteKind.{NoteKind}
use Rattle.schedule.specs.declared.contents.NoteKind.TheVariants as kinds
use Rattle.schedule.specs.declared.contents.BroadcastPart.{BroadcastPart}
use Rattle.schedule.specs.declared.contents.BroadcastPart.TheVariants.{Relay, AllAck, Board}
use Rattle.schedule.specs.declared.contents.ConsensusPart.{ConsensusPart}
use Rattle.schedule.specs.declared.contents.ConsensusPart.TheVariants.{Flood, Register}
use Rattle.schedule.specs.declared.contents.Pile.{Pile}
use Rattle.schedule.specs.declared.contents.Contents.{Contents}
use Rattle.entries.specs.Written.{written_lines, line_itself}

abbrev pub Always : {B : Type 0} → B → Type 0
Always b = Unit {0}

abbrev pub kind_word : NoteKind → List ℕ
kind_word kinds.Wear = codes "wear"
kind_word kinds.Label = codes "label"

abbrev pub kind_words : NoteKind → List (List ℕ)
kind_words k = codes "kind" ∷ kind_word k ∷ []

abbrev pub kind_text : NoteKind → List ℕ
kind_text k = spaced (kind_words k)

abbrev pub broadcast_word : BroadcastPart → List ℕ
broadcast_word Relay = codes "relay"
broadcast_word AllAck = codes "allack"
broadcast_word Board = codes "board"

abbrev pub consensus_word : ConsensusPart → List ℕ
consensus_word Flood = codes "flood"
consensus_word Register = codes "register"

abbrev pub pile_words : Pile → List (List ℕ)
pile_words p =
    cond p.in_turn
    (codes "pile" ∷ codes "inturn" ∷ broadcast_word p.broadcast ∷ consensus_word p.consensus ∷ [])
    (codes "pile" ∷ broadcast_word p.broadcast ∷ consensus_word p.consensus ∷ [])

abbrev pub pile_text : Pile → List ℕ
pile_text p = spaced (pile_words p)

-- a key word and a number
abbrev pub count_words : List ℕ → ℕ → List (List ℕ)
count_words key n = key ∷ decimal n ∷ []

abbrev pub count_text : List ℕ → ℕ → List ℕ
count_text key n = spaced (count_words key n)

abbrev pub Between : ℕ → ℕ → ℕ → Type 0
Between least most n = (least ≤ n) × (n ≤ most)

-- the five lines of the contents
abbrev pub contents_lines : Contents → List (List ℕ)
contents_lines c =
    kind_text c.kind ∷ count_text (codes "cards") c.cards ∷ pile_text c.pile
    ∷ count_text (codes "notes") c.notes ∷ count_text (codes "events") c.events ∷ []

-- 1 to 6 cards, up to 32 notes, up to 4096 events
abbrev pub ContentsAllowed : Contents → Type 0
ContentsAllowed c = Between 1 6 c.cards × Between 0 32 c.notes × Between 0 4096 c.events

abbrev pub contents_text : Contents → List ℕ
contents_text c = written_lines line_itself (contents_lines c)

-- How notes and events are written, and which of them the format allows.
use Rattle.std.specs.Prelude.{◌≡◌, ℕ, ◌^◌, ◌<◌, ◌≤◌, true, List, [], ◌∷◌, ◌++◌, Some, codes, decimal, Option}
use Rattle.labels.specs.Order.{is_label}
use Rattle.notes.specs.declared.wear.Wear.{Wear}
use Rattle.text.specs.Parts.{Span, place_of}
use Rattle.text.specs.Written.{Free, spaced}
use Rattle.entries.specs.declared.event.Event.{Event}
use Rattle.entries.specs.declared.event.Event.TheVariants.{Post, Propose, Take, Crash, Suspect, Carry, Lose, Settle}
use Rattle.parts.specs.declared.wires.Wire.{Wire}
use Rattle.parts.specs.declared.wires.Wire.TheVariants.{Broadcast, Consensus}

-- A rule reads what is written and nothing else. `text` is the line of a thing, without its end;
-- `put` is what is answered for a thing whose line starts at a place.
pub record ReadsWritten {A B : Type 0} (rule : Span → Option A) (put : ℕ → B → A) (text : B → List ℕ) (Allowed : B → Type 0) : Type 0 where
  pub only : (line : Span) (x : A) → rule line ≡ Some x → (b : B) × (x ≡ put (place_of line) b) × (line.0 ≡ text b) × Allowed b
  pub back : (b : B) (end : ℕ) → Allowed b → rule (text b, end) ≡ Some (put (place_of (text b, end)) b)
  pub clean : (b : B) → Allowed b → Free 10 (text b)

-- what is answered is the thing itself, wherever it stands
abbrev pub anywhere : {B : Type 0} → ℕ → B → B
anywhere place b = b

-- Events

abbrev pub wire_word : Wire → List ℕ
wire_word Broadcast = codes "b"
wire_word Consensus = codes "c"

abbrev pub event_words : Event → List (List ℕ)
event_words (Post card note) = codes "b" ∷ decimal card ∷ decimal note ∷ []
event_words (Propose card) = codes "p" ∷ decimal card ∷ []
event_words (Take card) = codes "t" ∷ decimal card ∷ []
event_words (Crash card) = codes "x" ∷ decimal card ∷ []
event_words (Suspect by card) = codes "s" ∷ decimal by ∷ decimal card ∷ []
event_words (Carry wire item) = codes "c" ∷ wire_word wire ∷ decimal item ∷ []
event_words (Lose wire item) = codes "l" ∷ wire_word wire ∷ decimal item ∷ []
event_words (Settle limit) = codes "r" ∷ decimal limit ∷ []

abbrev pub event_text : Event → List ℕ
event_text e = spaced (event_words e)

-- numbers in events go up to 65,535
abbrev pub EventAllowed : Event → Type 0
EventAllowed (Post card note) = (card ≤ 65535) × (note ≤ 65535)
EventAllowed (Propose card) = card ≤ 65535
EventAllowed (Take card) = card ≤ 65535
EventAllowed (Crash card) = card ≤ 65535
EventAllowed (Suspect by card) = (by ≤ 65535) × (card ≤ 65535)
EventAllowed (Carry wire item) = item ≤ 65535
EventAllowed (Lose wire item) = item ≤ 65535
EventAllowed (Settle limit) = limit ≤ 65535

-- Notes

abbrev pub wear_words : Wear → List (List ℕ)
wear_words w = decimal w.block ∷ decimal w.erases ∷ []

abbrev pub wear_text : Wear → List ℕ
wear_text w = spaced (wear_words w)

abbrev pub WearAllowed : Wear → Type 0
WearAllowed w = (w.block < 2 ^ 32) × (w.erases < 2 ^ 32)

-- a label is answered with the place where its line starts
abbrev pub label_put : ℕ → List ℕ → List ℕ × ℕ
label_put place bs = (bs, place)

abbrev pub label_text : List ℕ → List ℕ
label_text bs = bs

abbrev pub LabelAllowed : List ℕ → Type 0
LabelAllowed bs = is_label bs ≡ true

-- lines, each with the byte 10 that ends it
abbrev pub written_lines : {B : Type 0} → (B → List ℕ) → List B → List ℕ
written_lines text [] = []
written_lines text (b ∷ bs) = text b ++ (10 ∷ written_lines text bs)

abbrev pub line_itself : List ℕ → List ℕ
line_itself l = l

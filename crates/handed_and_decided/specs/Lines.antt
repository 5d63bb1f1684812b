-- The lines that are printed of the cards of a part.
use Rattle.std.specs.Prelude.{ℕ, zero, suc, Bool, true, false, cond, List, [], ◌++◌, codes, decimal, Some, None, Option, Ok, Err, Result}
use Rattle.notes.specs.Sets.{has}
use Rattle.parts.specs.Refusals.{number}
use Rattle.parts.specs.declared.refusal.Refusal.{Refusal}
use Rattle.parts.specs.declared.refusal.Refusal.TheVariants.{SenderNotCrashed}
use Rattle.parts.specs.declared.broadcast.Broadcast.{Ghosts as Broadcasts}
use Rattle.parts.specs.declared.consensus.Consensus.{Ghosts as Consensuses}

-- The texts of the numbers below n, one behind the other.
unfoldable pub texts_below : (ℕ → List ℕ) → ℕ → List ℕ
texts_below text zero = []
texts_below text (suc n) = texts_below text n ++ text n

-- A note of a set, behind a space.
abbrev pub note_text : ℕ → ℕ → List ℕ
note_text set note = cond (has set note) (codes " " ++ decimal note) []

-- The notes of a set, the lowest first.
abbrev pub notes_text : ℕ → List ℕ
notes_text set = texts_below (note_text set) 32

-- A card's number, and whether it runs.
abbrev pub card_text : ℕ → Bool → List ℕ
card_text card crashed = codes "card " ++ (decimal card ++ (codes " " ++ cond crashed (codes "down") (codes "up")))

-- The card with the notes handed to it.
abbrev pub handed_line : ℕ → Bool → ℕ → List ℕ
handed_line card crashed set = card_text card crashed ++ (codes " handed" ++ (notes_text set ++ codes "\n"))

-- The card with the notes that it has decided, if any.
abbrev pub decided_line : ℕ → Bool → Option ℕ → List ℕ
decided_line card crashed None = card_text card crashed ++ codes " undecided\n"
decided_line card crashed (Some set) = card_text card crashed ++ (codes " decided" ++ (notes_text set ++ codes "\n"))

-- The line of a card of a broadcast, and of a consensus in that instance; and the lines of the cards below n.
abbrev pub handed_line_of : {X : Type 0} (b : Broadcasts X) → b.State → ℕ → List ℕ
handed_line_of b s p = handed_line p (b.crashed s p) (b.handed s p)

abbrev pub handed_lines : {X : Type 0} (b : Broadcasts X) → b.State → ℕ → List ℕ
handed_lines b s = texts_below (handed_line_of b s)

abbrev pub decided_line_of : {X : Type 0} (c : Consensuses X) → c.State → ℕ → ℕ → List ℕ
decided_line_of c s instance p = decided_line p (c.crashed s p) (c.decision s instance p)

abbrev pub decided_lines : {X : Type 0} (c : Consensuses X) → c.State → ℕ → ℕ → List ℕ
decided_lines c s instance = texts_below (decided_line_of c s instance)

-- The number of a refusal.
abbrev pub refusal_line : Result Unit Refusal → List ℕ
refusal_line (Ok x) = []
refusal_line (Err e) = codes "no " ++ (decimal (number e) ++ codes "\n")

-- What the cases come to: a note that reaches card 1 alone, an item that is not lost, and a decision of card 1 alone.
abbrev pub cases_text : List ℕ
cases_text =
    handed_line 0 false 0 ++ (handed_line 1 false 8 ++ (refusal_line (Err SenderNotCrashed) ++ (decided_line 0 true None ++ decided_line 1 false (Some 2))))

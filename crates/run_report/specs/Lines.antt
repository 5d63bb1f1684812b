-- The lines of a report.
use Rattle.std.specs.Prelude.{ℕ, ◌+◌, Bool, cond, List, [], ◌∷◌, ◌++◌, map, codes, decimal, Ok, Err}
use Rattle.text.specs.Written.{spaced}
use Rattle.entries.specs.Written.{written_lines}
use Rattle.parts.specs.Refusals.{number}
use Rattle.total_order.specs.Calls.{Answer}

-- A line is its words. They are written with one space between each two, and a byte 10 behind the last.
abbrev pub Line : Type 0
Line = List (List ℕ)

abbrev pub lines_text : List Line → List ℕ
lines_text = written_lines spaced

-- A refused event has a line: its number, and the number of the refusal. An accepted one has none; no settle is refused.
abbrev pub refusal_line : ℕ → Answer → List Line
refusal_line event (Ok a) = []
refusal_line event (Err e) = (codes "no" ∷ decimal event ∷ decimal (number e) ∷ []) ∷ []

-- The answers to the events from this number on.
abbrev pub refusal_lines : ℕ → List Answer → List Line
refusal_lines event [] = []
refusal_lines event (answer ∷ answers) = refusal_line event answer ++ refusal_lines (event + 1) answers

abbrev pub card_word : Bool → List ℕ
card_word crashed = cond crashed (codes "down") (codes "up")

-- A card, whether it runs, and the notes of its log.
abbrev pub log_line : ℕ → Bool → List ℕ → Line
log_line card crashed log = codes "log" ∷ decimal card ∷ card_word crashed ∷ map decimal log

abbrev pub rest_word : Bool → List ℕ
rest_word rest = cond rest (codes "rest") (codes "more")

-- The steps, and whether the carrier is at rest.
abbrev pub steps_line : ℕ → Bool → Line
steps_line steps rest = codes "steps" ∷ decimal steps ∷ rest_word rest ∷ []

-- The report of a run over any broadcast and any consensus.
use Rattle.std.specs.Prelude.{ℕ, List, [], ◌∷◌, ◌++◌, map}
use Rattle.std.specs.List.{range_with_len}
use Rattle.parts.specs.declared.broadcast.Broadcast.{Ghosts as Broadcasts}
use Rattle.parts.specs.declared.consensus.Consensus.{Ghosts as Consensuses}
use Rattle.total_order.specs.Carrying.{Carrying, fresh, card_count, log_at, at_rest}
use Rattle.total_order.specs.Calls.{Answer}
use Rattle.total_order.specs.declared.call.Call.{Call}
use Rattle.runs.specs.Runs.{left_by, answers_to}
use Rattle.run_report.specs.Lines.{Line, lines_text, refusal_lines, log_line, steps_line}

module _ {X Y : Type 0} (b : Broadcasts X) (c : Consensuses Y) where
  -- The line of a card's log.
  abbrev pub log_line_of : Carrying b c → ℕ → Line
  log_line_of s card = log_line card (b.crashed s.broadcast card) (log_at b c s card)

  abbrev pub log_lines : Carrying b c → List Line
  log_lines s = map (log_line_of s) (range_with_len 0 (card_count b c s))

  -- What was refused, the log of each card, and the steps.
  abbrev pub end_text : List Answer → Carrying b c → List ℕ
  end_text answers s = lines_text (refusal_lines 0 answers ++ (log_lines s ++ (steps_line s.steps (at_rest b c s) ∷ [])))

  abbrev pub text_from : Carrying b c → List Call → List ℕ
  text_from s calls = end_text (answers_to b c s calls) (left_by b c s calls)

  -- The report of these calls on a new carrier, of so many cards and a book whose notes have this ranking order.
  abbrev pub report_over : ℕ → List ℕ → List Call → List ℕ
  report_over cards order calls = text_from (fresh b c cards order) calls

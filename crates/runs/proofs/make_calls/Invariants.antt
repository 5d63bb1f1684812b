use Rattle.std.proofs.Common.{◌≡◌, ◌≤◌, ◌++◌, length, drop, vec_items, vec_len, vec_capacity}
use Rattle.total_order.specs.Models.{model}
use Rattle.runs.specs.Runs.{left_by, answers_to}
use Rattle.runs.proofs.make_calls.Given as goal

-- What is left of the calls leads to the same carrier, and brings the other answers, for which there is room.
abbrev pub invariant-loop-call : goal.invariant-loop-call
invariant-loop-call g l =
    (left_by g.B.Broadcast g.C.Consensus (model g.B.Broadcast g.C.Consensus l.carrier) (drop l.call-index l.calls)
    ≡ left_by g.B.Broadcast g.C.Consensus (model g.B.Broadcast g.C.Consensus l.initial.carrier) l.calls)
    × (vec_items l.answers ++ answers_to g.B.Broadcast g.C.Consensus (model g.B.Broadcast g.C.Consensus l.carrier) (drop l.call-index l.calls)
    ≡ answers_to g.B.Broadcast g.C.Consensus (model g.B.Broadcast g.C.Consensus l.initial.carrier) l.calls)
    × (vec_len l.answers ≡ l.call-index)
    × (length l.calls ≤ vec_capacity l.answers)

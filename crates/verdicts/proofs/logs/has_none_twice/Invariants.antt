use Rattle.std.proofs.Common.{length}
use Rattle.order.specs.Words.{NoneTwice}
use Rattle.verdicts.proofs.logs.has_none_twice.Given as goal

-- No note stands twice in the log exactly where none does in the rest.
abbrev pub invariant-loop-note : goal.invariant-loop-note
invariant-loop-note l = (NoneTwice l.rest → NoneTwice l.fn.log) × (NoneTwice l.fn.log → NoneTwice l.rest)

abbrev pub decreases-loop-note : goal.decreases-loop-note
decreases-loop-note l = length l.rest

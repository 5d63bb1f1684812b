use Rattle.std.proofs.Common.{◌≤◌, take}
use Rattle.verdicts.specs.Counts.{Failing}
use Rattle.verdicts.proofs.count.judge.Given as goal

abbrev pub invariant-loop-case : goal.invariant-loop-case
invariant-loop-case g l = Failing g.C.Case.Passes (take l.case-index l.cases) l.failures × (l.failures ≤ l.case-index)

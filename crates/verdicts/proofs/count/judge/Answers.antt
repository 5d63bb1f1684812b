use Rattle.std.proofs.Common.{◌≡◌, ◌+◌, [], ◌∷◌, ◌++◌, take, sym, subst, arith}
use Rattle.std.proofs.lemmas.List.{take_more, take_all}
use Rattle.verdicts.specs.Counts.{Failing}
use Rattle.verdicts.specs.Counts.Failing.{none}
use Rattle.verdicts.proofs.Counts.{all_pass, none_fails}
use Rattle.verdicts.proofs.count.judge.Goals as goal

pub loop-case-init : goal.loop-case-init
loop-case-init g c = (none, omega arith)

pub loop-case-preserved : goal.loop-case-preserved
loop-case-preserved g c =
    let xs = c.args.cases.now in
    let i = c.loop-case.case-index in
    let case = c.case-item.result in
    let more : take (i + 1) xs ≡ take i xs ++ case ∷ [] = cc (take_more xs i case c.loop-case-test.true) in (
      subst (λ l. Failing g.C.Case.Passes l c.with_one_more-failures.result) (sym more)
          (c.with_one_more-failures.ensures.counted (take i xs) c.loop-case.invariant.0),
      omega (arith, c.with_one_more-failures.ensures.at_most_one, c.loop-case.invariant.1),
    )

pub returns-clause-none : goal.returns-clause-none
returns-clause-none g c =
    let all = subst (λ l. Failing g.C.Case.Passes l c.loop-case.failures) (take_all c.loop-case.case-index c.args.cases.now (omega arith)) c.loop-case.invariant.0 in
    (all_pass g.C.Case.Passes all, none_fails g.C.Case.Passes all)

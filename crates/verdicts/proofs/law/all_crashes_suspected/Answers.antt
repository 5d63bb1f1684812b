use Rattle.std.proofs.Common.{rules, ℕ, length, arith}
use borrow.Author.Tests.{tests}
use Rattle.std.proofs.lemmas.Iterator.{YieldsList-from_range, cases_from_all}
use Rattle.verdicts.specs.Sentences.{Runs, SuspectsAllDown, AllCrashesSuspected}
use Rattle.verdicts.proofs.Lists.{decides_below}
use Rattle.verdicts.proofs.law.all_crashes_suspected.Goals as goal

pub returns : goal.returns
unfolding AllCrashesSuspected
returns c =
    let cards = c.args.cards.now in
    let n = length cards in
    let asked = λ (q : ℕ). Runs cards q → SuspectsAllDown q cards c.args.suspicions.now in
    decides_below c.all.result asked n
    (cases_from_all _ _ _ asked (λ q. asked q → ⊥) c.all.ensures.ran (YieldsList-from_range 0 n n (cc) (omega arith)) (λ x q k. search (rules, tests)) (λ x q k. search (rules, tests)))

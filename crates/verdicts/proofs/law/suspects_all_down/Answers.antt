use Rattle.std.proofs.Common.{rules, ℕ, length, arith}
use borrow.Author.Tests.{tests}
use Rattle.std.proofs.lemmas.Iterator.{YieldsList-from_range, cases_from_all}
use Rattle.verdicts.specs.Sentences.{IsDown, Suspects, SuspectsAllDown}
use Rattle.verdicts.proofs.Lists.{decides_below}
use Rattle.verdicts.proofs.law.suspects_all_down.Goals as goal

pub returns : goal.returns
unfolding SuspectsAllDown
returns c =
    let cards = c.args.cards.now in
    let n = length cards in
    let asked = λ (p : ℕ). IsDown cards p → Suspects c.args.suspicions.now c.args.by p in
    decides_below c.all.result asked n
    (cases_from_all _ _ _ asked (λ p. asked p → ⊥) c.all.ensures.ran (YieldsList-from_range 0 n n (cc) (omega arith)) (λ x q k. search (rules, tests)) (λ x q k. search (rules, tests)))

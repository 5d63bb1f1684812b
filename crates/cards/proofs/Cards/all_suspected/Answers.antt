use Rattle.std.proofs.Common.{rules, arith}
use borrow.Author.Tests.{tests}
use Rattle.std.proofs.lemmas.Iterator.{YieldsList-from_range}
use Rattle.std.proofs.lemmas.Iterator.Search.{all_from_yields_List}
use Rattle.cards.specs.Cards.{knows_all}
use Rattle.cards.proofs.Known.{all_suspected}
use Rattle.cards.proofs.Cards.all_suspected.Goals as goal

pub returns : goal.returns
returns c =
    let cards = c.args.self.now in
    all_suspected cards c.all.result (all_from_yields_List (knows_all cards) _ _ _ c.all.ensures.ran (YieldsList-from_range 0 cards.count cards.count (cc) (omega arith)) (λ x b q k. search (rules, tests)))

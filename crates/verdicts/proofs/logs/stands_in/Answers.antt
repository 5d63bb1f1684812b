use Rattle.std.proofs.Common.{rules, eqb}
use borrow.Author.Tests.{tests}
use Rattle.std.proofs.lemmas.Iterator.{YieldsList-from_slice}
use Rattle.std.proofs.lemmas.Iterator.Search.{any_from_yields_List}
use Rattle.verdicts.proofs.Lists.{among_where_any}
use Rattle.verdicts.proofs.logs.stands_in.Goals as goal

pub returns : goal.returns
returns c =
    let note = c.args.note in
    among_where_any c.any.result note c.args.log.now (any_from_yields_List (λ x. eqb note x) _ _ _ c.any.ensures.ran (YieldsList-from_slice c.args.log.now cc) (λ x b q k. search (rules, tests)))

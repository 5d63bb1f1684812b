use Rattle.std.proofs.Common.{rules, refl, ◌∙◌, arith}
use borrow.Author.Tests.{tests}
use Rattle.std.proofs.lemmas.Iterator.{YieldsList-from_range}
use Rattle.std.proofs.lemmas.Iterator.Search.{all_from_yields_List}
use Rattle.flooding.specs.Seats.{accounted_for}
use Rattle.flooding.specs.Counted.{all_in_range}
use Rattle.flooding.proofs.seats.Seat.is_complete.Goals as goal

pub returns : goal.returns
returns c =
    let cards = c.args.cards.now in
    let q = c.args.card in
    let s = c.args.self in
    all_from_yields_List (accounted_for cards q s) _ _ _ c.all.ensures.ran (YieldsList-from_range 0 c.count.result cards.count refl (omega arith)) (λ x b q k. search (rules, tests)) ∙ all_in_range cards q s cards.count

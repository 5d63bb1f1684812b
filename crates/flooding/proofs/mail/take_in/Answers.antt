use Rattle.std.proofs.Common.{◌≡◌, rules, refl}
use Rattle.std.proofs.lemmas.Fn.{fold_over, fronts}
use Rattle.std.proofs.lemmas.Iterator.{YieldsList-from_slice}
use Rattle.flooding.specs.Mail.{taking_in}
use Rattle.flooding.specs.Mails.{taking_more}
use Rattle.flooding.proofs.mail.take_in.Goals as goal

pub returns : goal.returns
returns c =
    let cards = c.args.cards.now in
    let k = c.args.place.instance in
    let q = c.args.place.card in
    let s = c.args.seat in
    let items = c.args.kept.now in
    fold_over fronts (λ y. y.now) _ (λ ys a. a ≡ taking_in cards k q s ys) _
    (λ ys a x b f' j h. let n = taking_more cards k q s ys x.now in search rules)
    c.iter.result items _ _ (YieldsList-from_slice {s = c.iter.result} items cc).runs refl c.fold.ensures.ran

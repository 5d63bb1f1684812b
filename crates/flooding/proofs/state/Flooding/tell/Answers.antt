use Rattle.std.proofs.Common.{rules}
use Rattle.wire.proofs.Wires.{length_sent_others}
use Rattle.flooding.proofs.state.Flooding.tell.Goals as goal

pub returns : goal.returns
returns c =
    let s = c.self.inside in
    let n = length_sent_others s.cards c.args.card c.args.load s.cards.count in
    search rules

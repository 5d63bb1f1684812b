use Rattle.std.proofs.Common.{rules}
use Rattle.std.proofs.lemmas.List.{map-set, get_or-map}
use Rattle.total_order.proofs.carrier.Carrier.go_on.Goals as goal

pub returns-clause-instances : goal.returns-clause-instances
returns-clause-instances g c =
    let there = get_or-map (λ p. p.instance) c.args.self.now.cards c.args.card c.index-self-card.result 0 (search rules) in
    rw (map-set (λ p. p.instance) c.args.self.now.cards c.args.card c.go_on.new.self, there) (search rules)

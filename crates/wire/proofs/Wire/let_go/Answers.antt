use Rattle.std.proofs.Common.{◌≡◌, rules}
use Rattle.std.proofs.lemmas.Fn.{filter_same}
use Rattle.wire.specs.Wires.{without_to}
use Rattle.wire.proofs.Wire.let_go.Goals as goal

pub returns-clause-after : goal.returns-clause-after
returns-clause-after g c =
    let kept : c.retain.new.self.items ≡ without_to c.args.card c.self.inside.items.items = filter_same _ _ _ (λ x b f' k. search rules) _ _ c.retain.ensures.filtered in
    search rules

use Rattle.std.proofs.Common.{◌≡◌, sym, ap, ◌∙◌}
use Rattle.notes.specs.Sets.{has}
use Rattle.inturn.specs.Models.{layer_of, view_below, view_in_turn}
use Rattle.inturn.specs.Means.{in_order, counts_held, held_counts}
use Rattle.inturn.proofs.layer.InTurn.counts_as_handed.Goals as goal

pub returns-clause-rule : goal.returns-clause-rule
returns-clause-rule g c =
    let b = g.B.Broadcast in
    let s = layer_of b.state c.args.self.now in
    let v = view_below b c.args.self.now in
    let e : c.contains.result ≡ has ((view_in_turn b c.args.self.now).handed c.args.card) c.args.note = c.contains.ensures ∙ ap (λ n. has n c.args.note) c.handed_to.ensures in
    λ m.
    let law = g.met.B.Broadcast.meaning.lawful s.below m.0 in
    (λ t. counts_held s.posts v law m.1 c.args.card c.args.note (sym e ∙ t), λ h. e ∙ held_counts s.posts v law m.1 c.args.card c.args.note h)

pub returns-clause-order : goal.returns-clause-order
returns-clause-order g c =
    let b = g.B.Broadcast in
    let s = layer_of b.state c.args.self.now in
    λ m. in_order s.posts (view_below b c.args.self.now) (g.met.B.Broadcast.meaning.lawful s.below m.0) m.1

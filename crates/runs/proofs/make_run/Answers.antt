use Rattle.std.proofs.Common.{◌≡◌, ap, ◌∙◌}
use Rattle.total_order.specs.Models.{model}
use Rattle.runs.specs.Scripts.{begun}
use Rattle.runs.specs.Runs.{left_by, answers_to}
use Rattle.runs.proofs.Law.{order_answered, made_answered}
use Rattle.runs.proofs.make_run.Goals as goal
use Rattle.runs.proofs.make_run.Given as given

-- What the calls leave and answer is what they do on the carrier that the script begins with.
module _ (g : given.Over) (c : goal.After-make_calls g) where
  left : model g.B.Broadcast g.C.Consensus c.make_calls.new.carrier
      ≡ left_by g.B.Broadcast g.C.Consensus (begun g.B.Broadcast g.C.Consensus g.K.Kind.precedes c.args.script.now) c.args.script.now.calls.now
  left = c.make_calls.ensures.carrier ∙ ap (λ z. left_by g.B.Broadcast g.C.Consensus z c.args.script.now.calls.now) c.in_ok-carrier.ensures.fresh

  told : c.make_calls.new.answers.items
      ≡ answers_to g.B.Broadcast g.C.Consensus (begun g.B.Broadcast g.C.Consensus g.K.Kind.precedes c.args.script.now) c.args.script.now.calls.now
  told = c.make_calls.ensures.answers ∙ ap (λ z. answers_to g.B.Broadcast g.C.Consensus z c.args.script.now.calls.now) c.in_ok-carrier.ensures.fresh

pub returns-clause-made : goal.returns-clause-made
returns-clause-made g c =
    made_answered g.B.Broadcast g.C.Consensus g.K.Kind.precedes c.every_run_stays_in_order.ensures c.args.script.now _ (left g c)

pub returns-clause-order : goal.returns-clause-order
returns-clause-order g c =
    order_answered g.B.Broadcast g.C.Consensus g.K.Kind.precedes c.every_run_stays_in_order.ensures c.args.script.now _ _ (left g c) (told g c)

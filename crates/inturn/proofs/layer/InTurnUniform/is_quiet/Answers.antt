use Rattle.inturn.specs.Means.{agreement_over}
use Rattle.inturn.specs.Models.{posted_in, view_below}
use Rattle.inturn.proofs.layer.InTurnUniform.is_quiet.Goals as goal

pub returns-clause-agreed : goal.returns-clause-agreed
returns-clause-agreed g c = λ t m. agreement_over (posted_in c.args.self.now) (view_below g.B.Broadcast c.args.self.now) (c.is_quiet.ensures.agreed t m.0)

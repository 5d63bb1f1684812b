use Rattle.inturn.specs.Calls.{behaviour}
use Rattle.inturn.proofs.Runs.{as_below}
use Rattle.inturn.proofs.layer.InTurn.into_lower.Goals as goal

pub returns-clause-as_below : goal.returns-clause-as_below
returns-clause-as_below g c = let b = g.B.Broadcast in as_below (behaviour b) b.made b.bound g.met.B.Broadcast.meaning

use Rattle.inturn.specs.Calls.{behaviour}
use Rattle.inturn.proofs.Runs.{twice_as_once}
use Rattle.inturn.proofs.layer.InTurn+InTurn+B.into_one_layer.Goals as goal

pub returns-clause-as_once : goal.returns-clause-as_once
returns-clause-as_once g c = let b = g.B.Broadcast in twice_as_once (behaviour b) b.made b.bound g.met.B.Broadcast.meaning

use Rattle.runs.proofs.Good.{Means}
use Rattle.runs.proofs.Law.{stays_in_order}
use Rattle.runs.proofs.Ranked.{listed}
use Rattle.logs.specs.Orders.{in_ranking_order}
use Rattle.runs.proofs.new_carriers_stay_in_order.Goals as goal
use Rattle.runs.proofs.new_carriers_stay_in_order.Given as given

means : (g : given.Over) → Means g.B.Broadcast g.C.Consensus
means g = record { broadcast = g.met.B.Broadcast.meaning; consensus = g.met.C.Consensus.meaning }

pub returns : goal.returns
returns g c = λ n book few.
    let order = in_ranking_order g.K.Kind.precedes book in
    stays_in_order g.B.Broadcast g.C.Consensus (means g) n few order (listed g.K.Kind.precedes g.met.K.Kind.total g.met.K.Kind.transitive book)

use Rattle.order.proofs.Keeps.{order_law}
use Rattle.order.proofs.every_run_keeps_one_order.Goals as goal

pub returns : goal.returns
returns c = order_law

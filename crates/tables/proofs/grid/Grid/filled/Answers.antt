use Rattle.tables.proofs.Written.{new_shaped}
use Rattle.tables.proofs.grid.Grid.filled.Goals as goal

pub invariant_of-result : goal.invariant_of-result
invariant_of-result g c = new_shaped c.args.value

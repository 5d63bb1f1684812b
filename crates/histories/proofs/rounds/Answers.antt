use Rattle.histories.proofs.Agrees.{validity}
use Rattle.histories.proofs.rounds.Goals as goal

pub returns-clause-validity : goal.returns-clause-validity
returns-clause-validity c = validity c.args.cards

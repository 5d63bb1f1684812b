use Rattle.std.proofs.Common.{◌≡◌, false, is_some, refl, sym, ap, ◌∙◌}
use Rattle.tables.specs.Tables.{ballot_in}
use Rattle.tables.proofs.Free.{one_less_proposal}
use Rattle.tables.proofs.ballots.Ballots.propose.Goals as goal

pub returns-clause-free : goal.returns-clause-free
returns-clause-free c =
    let free : is_some (ballot_in c.self.inside.rows c.args.instance c.args.card) ≡ false = rw c.self.view_is (ap is_some (sym c.of.ensures.value) ∙ sym c.is_some.ensures ∙ c.if-is_some.false) in
    rw (c.put.ensures.after, ← c.self.view_is) (one_less_proposal c.self.inside.rows c.args.instance c.args.card c.args.notes c.self.invariant c.if-instance-ge32.false (c.in_ok-acting.ensures.few refl) free)

use Rattle.std.proofs.Common.{sym, ◌∙◌, arith}
use Rattle.parts.specs.Shown.{shown}
use Rattle.handed_and_decided.proofs.Emptied.{no_item_left, no_turn_left, of_broadcast, carried}
use Rattle.handed_and_decided.proofs.carrying.carry_all.Goals as goal

pub returns-then-is_err : goal.returns-then-is_err
returns-then-is_err g c =
    let b = g.B.Broadcast in
    let e = no_item_left b.wire b.carrying _ _ _ _ _ c.carry.ensures.answer c.carry.ensures.after (sym c.is_err.ensures.value ∙ c.if-is_err.true) c.loop-turn.invariant in
    let r = carried (λ s. (shown b s).net) b.made b.carrying (of_broadcast b g.met.B.Broadcast.meaning) _ _ _ e in
    record { after = e; made = r.0; empty = r.1 }

pub returns : goal.returns
returns g c =
    let b = g.B.Broadcast in
    let e = no_turn_left b.wire b.carrying c.args.limit c.loop-turn._turn _ _ (omega arith) c.loop-turn.invariant in
    let r = carried (λ s. (shown b s).net) b.made b.carrying (of_broadcast b g.met.B.Broadcast.meaning) _ _ _ e in
    record { after = e; made = r.0; empty = r.1 }

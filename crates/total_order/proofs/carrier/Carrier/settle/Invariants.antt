use Rattle.std.proofs.Common.{◌≡◌, ℕ, ◌+◌, ◌-◌, ◌^◌, ◌<◌, false}
use Rattle.total_order.specs.Models.{model}
use Rattle.total_order.specs.Carrying.{at_rest, after_steps, settled, settle_steps}
use Rattle.total_order.proofs.carrier.Carrier.settle.Given as goal

-- What is left of the limit leads to the same carrier, and makes the other steps. Those that were made are counted, each from a carrier not at rest.
abbrev pub invariant-loop-steps : goal.invariant-loop-steps
invariant-loop-steps g l =
    let b = g.B.Broadcast in
    let c = g.C.Consensus in
    let before = model b c l.initial.self in
    let now = model b c l.self in
    record {
      left : settled b c (l.limit - l.steps) now ≡ settled b c l.limit before;
      still : l.steps + settle_steps b c (l.limit - l.steps) now ≡ settle_steps b c l.limit before;
      made : now ≡ after_steps b c l.steps before;
      counted : before.steps + l.steps < 2 ^ 64 → now.steps ≡ before.steps + l.steps;
      never : (k : ℕ) → k < l.steps → at_rest b c (after_steps b c k before) ≡ false;
    }

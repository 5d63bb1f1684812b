use Rattle.std.proofs.Common.{◌≡◌}
use Rattle.wire.specs.Wires.{holding, sending}
use Rattle.wire.proofs.Wire.send.Given as goal

abbrev pub invariant-loop-to : goal.invariant-loop-to
invariant-loop-to g l = l.self ≡ holding l.initial.self (sending l.initial.self.room l.cards l.from l.load l.to l.initial.self.items)

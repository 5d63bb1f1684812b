use Rattle.std.proofs.Common.{◌≡◌}
use Rattle.inturn.specs.Turns.{blocked_by, counted_of}
use Rattle.inturn.proofs.table.Table.in_turn.Given as goal

-- What counts of the posts so far, and whom they block.
abbrev pub invariant-loop-post : goal.invariant-loop-post
invariant-loop-post l = (l.counted ≡ counted_of l.self l.handed l.post-index) × (l.blocked ≡ blocked_by l.self l.handed l.post-index)

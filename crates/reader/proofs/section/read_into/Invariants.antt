use Rattle.std.proofs.Common.{◌≡◌, ◌+◌, ◌-◌, ◌≤◌, map, vec_items, vec_len, vec_capacity}
use Rattle.text.specs.Parts.{part_of}
use Rattle.entries.specs.Lines.{lines_of, lines_after}
use Rattle.reader.proofs.section.read_into.Given as goal

abbrev pub invariant-loop-i : goal.invariant-loop-i
invariant-loop-i g l =
    (lines_of g.T.OneLine.rule l.count (part_of l.rest) ≡ lines_after g.T.OneLine.rule (map g.T.OneLine.said (vec_items l.out)) (l.count - l._i) (part_of l.left))
    × (vec_len l.out + (l.count - l._i) ≤ vec_capacity l.out)

use Rattle.std.proofs.Common.{◌≡◌, ◌-◌}
use Rattle.text.specs.Parts.{part_of}
use Rattle.reader.proofs.SectionLaws.{skip_lines}
use Rattle.reader.proofs.section.check_lines.Given as goal

abbrev pub invariant-loop-i : goal.invariant-loop-i
invariant-loop-i g l = skip_lines g.T.OneLine.rule l.count (part_of l.rest) ≡ skip_lines g.T.OneLine.rule (l.count - l._i) (part_of l.left)

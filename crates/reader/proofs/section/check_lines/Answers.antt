use Rattle.std.proofs.Common.{◌≡◌, ◌-◌, [], sym, ap, ◌∙◌, arith}
use Rattle.text.specs.Parts.{part_of}
use Rattle.reader.proofs.SectionLaws.{skip_lines, skip_ends, skip_more, skip_wrong, skip_no_more}
use Rattle.reader.proofs.section.check_lines.Goals as goal

pub loop-i-init : goal.loop-i-init
loop-i-init g c =
    let e : c.args.count ≡ c.args.count - 0 = omega arith in
    ap (λ k. skip_lines g.T.OneLine.rule k (part_of c.args.rest)) e

pub loop-i-preserved : goal.loop-i-preserved
loop-i-preserved g c = skip_more g.T.OneLine.rule c.args.count c.loop-i._i _ c.loop-i-test.true _ _ _ c.loop-i.invariant c.in_ok-left.ensures.value

pub returns-in_err-left : goal.returns-in_err-left
returns-in_err-left g c =
    let wrong = sym (skip_ends g.T.OneLine.rule [] c.args.count (part_of c.args.rest)
    ∙ skip_wrong g.T.OneLine.rule c.args.count c.loop-i._i _ c.loop-i-test.true _ _ c.loop-i.invariant c.in_err-left.ensures.value) in grind (arith, wrong)

pub returns : goal.returns
returns g c =
    sym (skip_ends g.T.OneLine.rule [] c.args.count (part_of c.args.rest) ∙ c.loop-i.invariant
    ∙ skip_no_more g.T.OneLine.rule c.args.count c.loop-i._i _ (omega arith))

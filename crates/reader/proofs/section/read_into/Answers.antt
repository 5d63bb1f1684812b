use Rattle.std.proofs.Common.{◌≡◌, ◌-◌, map, sym, ap, ◌∙◌, arith}
use Rattle.std.proofs.lemmas.List.{map_push}
use Rattle.text.specs.Parts.{part_of}
use Rattle.entries.specs.Lines.{lines_after}
use Rattle.reader.proofs.SectionLaws.{line_more, line_wrong, no_more}
use Rattle.reader.proofs.section.read_into.Goals as goal

pub loop-i-init : goal.loop-i-init
loop-i-init g c =
    let e : c.args.count ≡ c.args.count - 0 = omega arith in
    let none = c.requires.empty in
    ((λ i. lines_after g.T.OneLine.rule (map g.T.OneLine.said (sym none i)) (e i) (part_of c.args.rest)), omega arith)

pub push_reserved-requires : goal.push_reserved-requires
push_reserved-requires g c = omega arith

pub loop-i-preserved : goal.loop-i-preserved
loop-i-preserved g c = (
  line_more g.T.OneLine.rule c.args.count c.loop-i._i _ c.loop-i-test.true _ _ _ _ _ c.loop-i.invariant.0 c.in_ok-value.ensures.value
      (ap (map g.T.OneLine.said) c.push_reserved.ensures.items ∙ map_push g.T.OneLine.said _ _),
  omega arith,
)

pub returns-in_err-value : goal.returns-in_err-value
returns-in_err-value g c =
    let wrong = sym (line_wrong g.T.OneLine.rule c.args.count c.loop-i._i _ c.loop-i-test.true _ _ _ c.loop-i.invariant.0 c.in_err-value.ensures.value) in grind (arith, wrong)

pub returns : goal.returns
returns g c = sym (c.loop-i.invariant.0 ∙ no_more g.T.OneLine.rule _ c.args.count c.loop-i._i _ (omega arith))

use Rattle.std.proofs.Common.{[], string_bytes, ◌∙◌}
use Rattle.handed_and_decided.specs.Lines.{decided_line_of}
use Rattle.handed_and_decided.proofs.Texts.{none_yet, one_more}
use Rattle.handed_and_decided.proofs.report.decided.Goals as goal

pub loop-card-init : goal.loop-card-init
loop-card-init g c =
    let b = g.C.Consensus in
    let s = b.state c.args.consensus.now in
    c.new-out.ensures.bytes ∙ none_yet [] (decided_line_of b s c.args.instance)

pub loop-card-preserved : goal.loop-card-preserved
loop-card-preserved g c =
    let b = g.C.Consensus in
    let s = b.state c.args.consensus.now in
    one_more [] (string_bytes c.loop-card.out) (string_bytes c.write_decided_of.new.out) (decided_line_of b s c.args.instance) c.loop-card.card c.loop-card.invariant c.in_ok-write_decided_of.ensures

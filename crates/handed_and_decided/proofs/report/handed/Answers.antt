use Rattle.std.proofs.Common.{[], string_bytes, ◌∙◌}
use Rattle.handed_and_decided.specs.Lines.{handed_line_of}
use Rattle.handed_and_decided.proofs.Texts.{none_yet, one_more}
use Rattle.handed_and_decided.proofs.report.handed.Goals as goal

pub loop-card-init : goal.loop-card-init
loop-card-init g c =
    let b = g.B.Broadcast in
    let s = b.state c.args.broadcast.now in
    c.new-out.ensures.bytes ∙ none_yet [] (handed_line_of b s)

pub loop-card-preserved : goal.loop-card-preserved
loop-card-preserved g c =
    let b = g.B.Broadcast in
    let s = b.state c.args.broadcast.now in
    one_more [] (string_bytes c.loop-card.out) (string_bytes c.write_handed_of.new.out) (handed_line_of b s) c.loop-card.card c.loop-card.invariant c.in_ok-write_handed_of.ensures

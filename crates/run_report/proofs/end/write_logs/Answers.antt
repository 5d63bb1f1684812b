use Rattle.std.proofs.Common.{◌≡◌, ◌+◌, ◌++◌, map, string_bytes, ap, ◌∙◌, arith}
use Rattle.std.specs.List.{range_with_len}
use Rattle.std.proofs.lemmas.List.FromFn.{map-range_with_len_more}
use Rattle.total_order.specs.Carrying.{card_count}
use Rattle.total_order.specs.Models.{model}
use Rattle.run_report.specs.Lines.{lines_text}
use Rattle.run_report.specs.Reports.{log_line_of}
use Rattle.run_report.proofs.Bytes.{one_line_more}
use Rattle.run_report.proofs.end.write_logs.Goals as goal

pub loop-card-preserved : goal.loop-card-preserved
loop-card-preserved g c =
    let b = g.B.Broadcast in
    let d = g.C.Consensus in
    let s = model b d c.args.carrier.now in
    let k = c.loop-card.card in
    one_line_more (string_bytes c.args.out.now) (string_bytes c.loop-card.out) (string_bytes c.write_card.new.out)
    (map (log_line_of b d s) (range_with_len 0 k)) (map (log_line_of b d s) (range_with_len 0 (k + 1))) (log_line_of b d s k)
    c.loop-card.invariant c.in_ok-write_card.ensures (map-range_with_len_more (log_line_of b d s) 0 k k (omega arith))

pub returns : goal.returns
returns g c =
    let b = g.B.Broadcast in
    let d = g.C.Consensus in
    let s = model b d c.args.carrier.now in
    let last : c.loop-card.card ≡ card_count b d s = omega (arith, c.card_count-card-end.ensures.count, c.loop-card.auto.card-end, c.loop-card-test.false) in
    c.loop-card.invariant ∙ ap (λ n. string_bytes c.args.out.now ++ lines_text (map (log_line_of b d s) (range_with_len 0 n))) last

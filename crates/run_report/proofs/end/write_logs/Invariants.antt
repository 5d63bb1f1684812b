use Rattle.std.proofs.Common.{◌≡◌, ◌++◌, map, string_bytes}
use Rattle.std.specs.List.{range_with_len}
use Rattle.total_order.specs.Models.{model}
use Rattle.run_report.specs.Lines.{lines_text}
use Rattle.run_report.specs.Reports.{log_line_of}
use Rattle.run_report.proofs.end.write_logs.Given as goal

abbrev pub invariant-loop-card : goal.invariant-loop-card
invariant-loop-card g l =
    string_bytes l.out
    ≡ string_bytes l.initial.out ++ lines_text (map (log_line_of g.B.Broadcast g.C.Consensus (model g.B.Broadcast g.C.Consensus l.carrier)) (range_with_len 0 l.card))

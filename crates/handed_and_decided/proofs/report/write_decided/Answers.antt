use Rattle.std.proofs.Common.{◌++◌, codes, string_bytes, sym, ap, ◌∙◌, append_assoc}
use Rattle.handed_and_decided.specs.Lines.{card_text, decided_line}
use Rattle.handed_and_decided.proofs.report.write_decided.Goals as goal

pub returns-in_ok-write-in-None : goal.returns-in_ok-write-in-None
returns-in_ok-write-in-None c =
    let before = string_bytes c.args.out.now in
    let word = codes " undecided\n" in
    c.in_ok-write-in-None.ensures.bytes
    ∙ ap (λ z. z ++ word) c.in_ok-write_card.ensures
    ∙ append_assoc before (card_text c.args.card c.args.crashed) word
    ∙ ap (λ d. before ++ decided_line c.args.card c.args.crashed d) (sym c.in-None.is)

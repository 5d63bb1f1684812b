use Rattle.std.proofs.Common.{string_bytes}
use Rattle.handed_and_decided.specs.Lines.{note_text}
use Rattle.handed_and_decided.proofs.Texts.{none_yet, one_more}
use Rattle.handed_and_decided.proofs.report.write_notes.Goals as goal

pub loop-note-init : goal.loop-note-init
loop-note-init c = none_yet (string_bytes c.args.out.now) (note_text c.args.notes)

pub loop-note-preserved : goal.loop-note-preserved
loop-note-preserved c =
    one_more (string_bytes c.args.out.now) (string_bytes c.loop-note.out) _ (note_text c.args.notes) c.loop-note.note c.loop-note.invariant c.in_ok-write_note.ensures

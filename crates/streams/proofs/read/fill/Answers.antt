use Rattle.std.proofs.Common.{◌∙◌, sym, subst, arith}
use Rattle.std.specs.Io.KnownBytes.{Consumes}
use Rattle.std.proofs.KnownBytes.{Consumes-kept}
use Rattle.streams.proofs.Pieces.{read_more}
use Rattle.streams.proofs.read.fill.Goals as goal
use Rattle.streams.proofs.read.fill.Goals.{in-Ok, in-Err+else-ne}

pub reads-preserved : goal.reads-preserved
reads-preserved g c =
    let inv = c.reads.invariant in
    elim c.match-read_behind.branch [
      | in-Ok w ↦
          let read = w.in-Ok.ensures in
          rw w.filled-is
          (read.room ∙ inv.0, read.fits, read_more _ _ _ c.reads.buffer c.read_behind.new.buffer c.reads.filled w.in-Ok.n read.front inv.2 read.read)
      | in-Err+else-ne w ↦
          let read = w.in-Err.ensures in
          rw w.filled-is
          (read.room ∙ inv.0, omega (arith, inv.1, read.room), subst (Consumes _ _) (sym read.front) (Consumes-kept _ _ _ _ inv.2 read.failed))
    ]

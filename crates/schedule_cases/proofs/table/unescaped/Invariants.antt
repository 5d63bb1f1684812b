use Rattle.std.proofs.Common.{length}
use Rattle.schedule_cases.proofs.table.unescaped.Given as goal

abbrev pub decreases-loop-byte : goal.decreases-loop-byte
decreases-loop-byte l = length l.rest

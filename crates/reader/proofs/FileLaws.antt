-- What the answers of the parts say of the whole.
use Rattle.std.proofs.Common.{◌≡◌, Some, None, Ok, Err, Option, Result, sym, refl, subst, arith}
use Rattle.std.specs.Option.{MatchOption}
use Rattle.std.specs.Result.{result_err}
use Rattle.faults.specs.declared.FileFault.{FileFault}
use Rattle.reader.specs.declared.file.Unread.{Unread}
use Rattle.reader.specs.declared.file.Unread.TheVariants.{Fault, NoMemory}
use Rattle.reader.specs.Files.{Whole, contents_in, Refuses}

-- the fault of a check, if there is one, and else want of memory
pub refuses : (s : Result Whole FileFault) (o : Option FileFault) (u : Unread) → o ≡ result_err (contents_in s) → MatchOption o (u ≡ NoMemory) (λ f. u ≡ Fault f) → Refuses u s
refuses (Ok w) None u e h = subst (λ v. Refuses v (Ok w)) (sym h) refl
refuses (Ok w) (Some f) u e h = absurd (grind arith)
refuses (Err f) None u e h = absurd (grind arith)
refuses (Err f) (Some g) u e h = let same : Err f ≡ Err g = cc in subst (λ v. Refuses v (Err f)) (sym h) same

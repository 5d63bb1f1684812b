-- What a file holds behind the longest that is allowed does not change its report.
use Rattle.std.specs.Prelude.{◌≡◌, ℕ, ◌<◌, List, length}
use Rattle.std.proofs.Common.{sym, ap, ◌∙◌}
use Rattle.listing.specs.Long.{too_long}
use Rattle.report.specs.Reports.{report_from, report_of}

pub long_report : (a b : List ℕ) → 65536 < length a → 65536 < length b → report_of a ≡ report_of b
long_report a b m n = ap report_from (too_long a m ∙ sym (too_long b n))

-- What a file holds behind the longest that is allowed does not change what it says.
use Rattle.std.specs.Prelude.{◌≡◌, ℕ, ◌<◌, true, List, length, Err, nat_lt}
use Rattle.std.proofs.Common.{sym, ap, ◌∙◌, arith}
use Rattle.std.proofs.lemmas.Bool.{cond-true}
use Rattle.std.proofs.lemmas.Bool.Decides.{nat_tests}
use Rattle.faults.specs.declared.FileFault.TheVariants.{Long}
use Rattle.reader.specs.Files.{schedule_of}
use Rattle.listing.specs.Listing.{listing_from, listing_of}

-- A file of more than 65,536 bytes has one fault, whatever it holds.
pub too_long : (file : List ℕ) → 65536 < length file → schedule_of file ≡ Err Long
too_long file n = let longer : nat_lt 65536 (length file) ≡ true = grind (arith, nat_tests) in cond-true _ _ _ longer

pub long_listing : (a b : List ℕ) → 65536 < length a → 65536 < length b → listing_of a ≡ listing_of b
long_listing a b m n = ap listing_from (too_long a m ∙ sym (too_long b n))

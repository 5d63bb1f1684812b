-- How many posts and proposals are still to come, as one is made.
use Rattle.std.proofs.Common.{◌≡◌, ℕ, zero, suc, ◌+◌, ◌<◌, false, List, [], ◌∷◌, length, get_or, set, is_some, Some, None, Option, sym, arith}
use borrow.Author.Tests.{clash}
use Rattle.tables.specs.Tables.{Shaped, free_notes, free_ballots, poster_in, ballot_in, with_ballot}

pub one_less_free : (t : List (Option ℕ)) (m p : ℕ) → m < length t → is_some (poster_in t m) ≡ false → free_notes (set t m (Some p)) + 1 ≡ free_notes t
one_less_free [] m p h e = absurd (omega arith)
one_less_free (None ∷ os) zero p h e = omega arith
one_less_free (Some x ∷ os) zero p h e = absurd (clash (sym e))
one_less_free (o ∷ os) (suc m) p h e = let q : free_notes (set os m (Some p)) + 1 ≡ free_notes os = one_less_free os m p (omega arith) e in omega arith

pub one_less_ballot : (t : List (List (Option ℕ))) (k p s : ℕ) → k < length t → p < length (get_or t k []) → is_some (ballot_in t k p) ≡ false → free_ballots (with_ballot t k p (Some s)) + 1 ≡ free_ballots t
one_less_ballot [] k p s h l e = absurd (omega arith)
one_less_ballot (r ∷ rs) zero p s h l e = let q : free_notes (set r p (Some s)) + 1 ≡ free_notes r = one_less_free r p s l e in omega arith
one_less_ballot (r ∷ rs) (suc k) p s h l e = let q : free_ballots (with_ballot rs k p (Some s)) + 1 ≡ free_ballots rs = one_less_ballot rs k p s (omega arith) l e in omega arith

-- In a table of six cards in each of 32 instances.
pub one_less_proposal : (t : List (List (Option ℕ))) (k p s : ℕ) → Shaped t → k < 32 → p < 6 → is_some (ballot_in t k p) ≡ false → free_ballots (with_ballot t k p (Some s)) + 1 ≡ free_ballots t
one_less_proposal t k p s g h l e = one_less_ballot t k p s (omega (arith, g.instances)) (omega (arith, g.row k h)) e

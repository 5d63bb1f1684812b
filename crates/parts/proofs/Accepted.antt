-- What an accepted call says of its arguments, and where it leads.
use Rattle.std.proofs.Common.{◌≡◌, ℕ, ◌<◌, true, false, length, get_or, Ok, Err, Result, is_ok, is_some, refl, arith}
use borrow.Author.Tests.{clash}
use Rattle.std.proofs.lemmas.Bool.Decides.{nat_tests}
use Rattle.parts.specs.declared.refusal.Refusal.{Refusal}
use Rattle.parts.specs.Views.{Net, BroadcastView, ConsensusView}
use Rattle.parts.specs.Refusals.{post_answer, propose_answer, carry_answer, lose_answer, crash_answer, suspect_answer}

pub post_accepted : (v : BroadcastView) (p m : ℕ) → post_answer v p m ≡ Ok tt → (p < v.net.cards) × (v.net.crashed p ≡ false) × (m < 32) × (is_some (v.poster m) ≡ false)
post_accepted v p m h = grind (arith, nat_tests)

pub propose_accepted : (v : ConsensusView) (k p s : ℕ) → propose_answer v k p s ≡ Ok tt → (p < v.net.cards) × (v.net.crashed p ≡ false) × (is_some (v.proposal k p) ≡ false) × (k < 32) × (0 < s)
propose_accepted v k p s h = grind (arith, nat_tests)

pub carry_accepted : (v : Net) (i : ℕ) → carry_answer v i ≡ Ok tt → i < length v.wire
carry_accepted v i h = grind (arith, nat_tests)

pub lose_accepted : (v : Net) (i : ℕ) → lose_answer v i ≡ Ok tt → (i < length v.wire) × (v.crashed (get_or v.wire i 7) ≡ true)
lose_accepted v i h = grind (arith, nat_tests)

pub crash_accepted : (v : Net) (p : ℕ) → crash_answer v p ≡ Ok tt → (p < v.cards) × (v.crashed p ≡ false)
crash_accepted v p h = grind (arith, nat_tests)

pub suspect_accepted : (v : Net) (q p : ℕ) → suspect_answer v q p ≡ Ok tt → (q < v.cards) × (p < v.cards) × (v.crashed q ≡ false) × (v.crashed p ≡ true)
suspect_accepted v q p h = grind (arith, nat_tests)

-- A call that is accepted answers nothing but that.
pub is_accepted : (a : Result Unit Refusal) → is_ok a ≡ true → a ≡ Ok tt
is_accepted (Ok x) h = refl
is_accepted (Err e) h = absurd (clash h)

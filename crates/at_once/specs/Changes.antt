-- What handing a note out changes in the sets.
use Rattle.std.specs.Prelude.{◌≡◌, ℕ, zero, suc, ◌^◌, ◌<◌, ◌≤◌, true, not, ◌&&◌, ◌||◌, List, length, ◌==◌, nat_lt, refl}
use Rattle.std.proofs.Common.{sym, ap, ◌∙◌, ⊎_elim, arith, length-set}
use borrow.Author.Tests.{clash}
use Rattle.std.proofs.lemmas.Bool.{cases_Bool, cond-true, cond-false, cond_both, eqb-true}
use Rattle.std.proofs.lemmas.Bool.Decides.{nat_tests}
use Rattle.notes.specs.Sets.{has}
use Rattle.cards.specs.Cards.{CardState, crashed_in}
use Rattle.tables.specs.Tables.{set_in, with_note}
use Rattle.tables.proofs.Changes.{noted_more, noted_others_stay, noted_fits}
use Rattle.at_once.specs.AtOnce.{hand_out}

pub length_out : (c : CardState) (m : ℕ) (t : List ℕ) (k : ℕ) → length (hand_out c m t k) ≡ length t
length_out c m t zero = refl
length_out c m t (suc k) =
    let h = length_out c m t k in
    cond_both (crashed_in c k) (hand_out c m t k) (with_note (hand_out c m t k) k m) (λ s. length s ≡ length t) (λ _. h) (λ _. simp length-set h)

-- Which sets hold a note then.
pub handed_more : (c : CardState) (m : ℕ) (t : List ℕ) (k q j : ℕ) → length t ≡ 6 → k ≤ 6 → m < 32
    → has (set_in (hand_out c m t k) q) j ≡ (has (set_in t q) j || (nat_lt q k && (not (crashed_in c q) && j == m)))
handed_more c m t zero q j e l w = grind (arith, nat_tests)
handed_more c m t (suc k) q j e l w =
    let h = handed_more c m t k q j e (omega arith) w in
    let n = noted_more (hand_out c m t k) k m q j (omega (arith, length_out c m t k)) w in
    ⊎_elim
    (λ a. ap (λ s. has (set_in s q) j) (cond-true (crashed_in c k) (hand_out c m t k) (with_note (hand_out c m t k) k m) a)
    ∙ ⊎_elim
    (λ s. let z = ap (crashed_in c) (eqb-true q k s) in grind (arith, nat_tests))
    (λ s. grind (arith, nat_tests))
    (cases_Bool (q == k)))
    (λ a. ap (λ s. has (set_in s q) j) (cond-false (crashed_in c k) (hand_out c m t k) (with_note (hand_out c m t k) k m) a)
    ∙ ⊎_elim
    (λ s. let z = ap (crashed_in c) (eqb-true q k s) in grind (arith, nat_tests))
    (λ s. grind (arith, nat_tests))
    (cases_Bool (q == k)))
    (cases_Bool (crashed_in c k))

-- The set of a card that has crashed, or is not among them, stays.
pub others_stay : (c : CardState) (m : ℕ) (t : List ℕ) (k q : ℕ) → (q < k → crashed_in c q ≡ true) → set_in (hand_out c m t k) q ≡ set_in t q
others_stay c m t zero q f = refl
others_stay c m t (suc k) q f =
    let h = others_stay c m t k q (λ l. f (omega arith)) in
    cond_both (crashed_in c k) (hand_out c m t k) (with_note (hand_out c m t k) k m) (λ s. set_in s q ≡ set_in t q)
    (λ _. h)
    (λ a. noted_others_stay (hand_out c m t k) k m q (λ z. clash (sym a ∙ sym (ap (crashed_in c) z) ∙ f (omega (arith, z)))) ∙ h)

pub out_fits : (c : CardState) (m : ℕ) (t : List ℕ) (k : ℕ) → length t ≡ 6 → k ≤ 6 → ((r : ℕ) → set_in t r < 2 ^ 32) → (q : ℕ) → set_in (hand_out c m t k) q < 2 ^ 32
out_fits c m t zero e l f q = f q
out_fits c m t (suc k) e l f q =
    let h = out_fits c m t k e (omega arith) f in
    cond_both (crashed_in c k) (hand_out c m t k) (with_note (hand_out c m t k) k m) (λ s. set_in s q < 2 ^ 32)
    (λ _. h q)
    (λ _. noted_fits (hand_out c m t k) k m q (omega (arith, length_out c m t k)) h)

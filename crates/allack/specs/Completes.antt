-- Who is counted, and of which notes a card has counted every card that it does not suspect.
use Rattle.std.specs.Prelude.{◌≡◌, ℕ, zero, suc, ◌+◌, ◌^◌, ◌<◌, Bool, true, false, cond, not, ◌&&◌, ◌||◌, List, [], length, ◌==◌, ◌≢◌, bit_xor, slice_index, slice_index_or, slice_set, refl}
use Rattle.std.proofs.Common.{sym, ap, subst, ◌∙◌, ⊎_elim, add-one, arith, get_or-set_other}
use Rattle.std.proofs.lemmas.Nat.{and_le_l}
use Rattle.std.proofs.lemmas.Bool.{both_ways, cases_Bool, cases_lt, cond-true, cond-false, cond_both, and_parts, and_from, eqb-true, lt-ltb}
use Rattle.std.proofs.lemmas.Bool.Decides.{nat_tests}
use Rattle.notes.specs.Sets.{has, added, minus}
use Rattle.notes.proofs.Bits.{has_added, has_minus}
use Rattle.cards.specs.Cards.{suspects_in}
use Rattle.tables.specs.Tables.{set_in}
use Rattle.parts.proofs.Lists.{row_written}
use Rattle.allack.specs.AllAck.{AllAckState, common, complete}
use Rattle.allack.specs.Counts.{counted_in, with_count}

-- After one count more.
pub counted_more : (t : List (List ℕ)) (p q m a b k : ℕ) → p < length t → q < length (slice_index_or t p []) → m < 32 → has (counted_in (with_count t p q m) a b) k ≡ (has (counted_in t a b) k || ((a == p && b == q) && k == m))
counted_more t p q m a b k hp hq l =
    let e = has_added (counted_in t p q) m k in
    let f = lt-ltb m 32 l in
    ap (λ s. has s k) (row_written t p q a b (added (counted_in t p q) m) 0 hp hq)
    ∙ ⊎_elim
    (λ h. let z = and_parts (a == p) (b == q) h in let old : has (counted_in t a b) k ≡ has (counted_in t p q) k = rw (eqb-true a p z.0, eqb-true b q z.1) refl in grind (arith, nat_tests, e, f, old))
    (λ h. grind (arith, nat_tests, h))
    (cases_Bool (a == p && b == q))

pub counted_others_stay : (t : List (List ℕ)) (p q m a b : ℕ) → (a ≢ p) → counted_in (with_count t p q m) a b ≡ counted_in t a b
counted_others_stay t p q m a b n = ap (λ row. slice_index row b) (get_or-set_other t p a (slice_set (slice_index_or t p []) q (added (counted_in t p q) m)) [] n)

has_common : (s t m : ℕ) → has (common s t) m ≡ (has s m && has t m)
has_common s t m = has_minus s (minus s t) m ∙ ap (λ b. has s m && not b) (has_minus s t m) ∙ twice (has s m) (has t m)
  where
    twice : (a b : Bool) → (a && not (a && not b)) ≡ (a && b)
    twice true true = refl
    twice true false = refl
    twice false b = refl

module _ (x : AllAckState) (p : ℕ) where
  -- One card more.
  pub complete_next : (k s r : ℕ) → r ≡ cond (suspects_in x.spread.cards p k) s (common s (counted_in x.counted p k)) → s ≡ complete x p k → r ≡ complete x p (k + 1)
  complete_next k s r a h = a ∙ ap (λ z. cond (suspects_in x.spread.cards p k) z (common z (counted_in x.counted p k))) h ∙ rw add-one refl

  pub complete_parts : (k m : ℕ) → has (complete x p k) m ≡ true → (has (set_in x.spread.relayed p) m ≡ true) × ((q : ℕ) → q < k → suspects_in x.spread.cards p q ≡ false → has (counted_in x.counted p q) m ≡ true)
  complete_parts zero m h = (h, λ q l. absurd (omega arith))
  complete_parts (suc k) m h =
      ⊎_elim
      (λ t. let rest = complete_parts k m (subst (λ z. has z m ≡ true) (cond-true (suspects_in x.spread.cards p k) _ _ t) h) in
      (rest.0, λ q l u. ⊎_elim (λ b. rest.1 q b u) (λ b. absurd (let e : k ≡ q = omega arith in both_ways _ u (subst (λ j. suspects_in x.spread.cards p j ≡ true) e t))) (cases_lt q k)))
      (λ t. let both = and_parts _ _ (sym (has_common (complete x p k) (counted_in x.counted p k) m) ∙ subst (λ z. has z m ≡ true) (cond-false (suspects_in x.spread.cards p k) _ _ t) h) in
      let rest = complete_parts k m both.0 in
      (rest.0, λ q l u. ⊎_elim (λ b. rest.1 q b u) (λ b. let e : k ≡ q = omega arith in subst (λ j. has (counted_in x.counted p j) m ≡ true) e both.1) (cases_lt q k)))
      (cases_Bool (suspects_in x.spread.cards p k))

  pub complete_from : (k m : ℕ) → has (set_in x.spread.relayed p) m ≡ true → ((q : ℕ) → q < k → suspects_in x.spread.cards p q ≡ false → has (counted_in x.counted p q) m ≡ true) → has (complete x p k) m ≡ true
  complete_from zero m r f = r
  complete_from (suc k) m r f =
      let h = complete_from k m r (λ q l. f q (omega arith)) in
      cond_both (suspects_in x.spread.cards p k) (complete x p k) (common (complete x p k) (counted_in x.counted p k)) (λ z. has z m ≡ true) (λ _. h) (λ t. has_common (complete x p k) (counted_in x.counted p k) m ∙ and_from _ _ h (f k (omega arith) t))

  pub complete_fits : (k : ℕ) → set_in x.spread.relayed p < 2 ^ 32 → complete x p k < 2 ^ 32
  complete_fits zero l = l
  complete_fits (suc k) l =
      cond_both (suspects_in x.spread.cards p k) (complete x p k) (common (complete x p k) (counted_in x.counted p k)) (λ z. z < 2 ^ 32) (λ _. complete_fits k l)
      (λ _. let h = complete_fits k l in omega (arith, and_le_l (complete x p k) (bit_xor (complete x p k) (minus (complete x p k) (counted_in x.counted p k)))))

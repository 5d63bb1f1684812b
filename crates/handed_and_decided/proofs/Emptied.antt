-- What carrying all items comes to.
use Rattle.std.proofs.Common.{◌≡◌, ℕ, zero, suc, ◌+◌, ◌-◌, ◌<◌, ◌≤◌, true, false, cond, ltb, List, [], length, sym, refl, ap, ◌∙◌, subst, ⊎_elim, arith, Ok, Err, Result, is_ok, is_err}
use Rattle.std.proofs.lemmas.List.{nil_from_length}
use Rattle.std.proofs.lemmas.Bool.{cases_Bool, cond-true, cond-false, both_ways, ltb-false}
use Rattle.parts.specs.Views.{Net}
use Rattle.parts.specs.declared.refusal.Refusal.{Refusal}
use Rattle.parts.specs.declared.refusal.Refusal.TheVariants.{NoSuchItem}
use Rattle.parts.specs.Refusals.{carry_answer}
use Rattle.parts.specs.Broadcasting as broadcasting
use Rattle.parts.specs.Deciding as deciding
use Rattle.parts.specs.Shown.{shown, told}
use Rattle.parts.specs.declared.broadcast.Broadcast.{Ghosts as Broadcasts}
use Rattle.parts.specs.declared.consensus.Consensus.{Ghosts as Consensuses}
use Rattle.handed_and_decided.specs.Carrying.{carried_all}

-- The turns of the loop, and its end.
module _ {S : Type 0} (wire : S → List ℕ) (carrying : S → ℕ → S) where
  pub one_turn : (limit turn : ℕ) (s t end : S) (a : Result Unit Refusal) → a ≡ cond (ltb 0 (length (wire s))) (Ok tt) (Err NoSuchItem) → t ≡ cond (is_ok a) (carrying s 0) s → is_err a ≡ false → turn < limit
      → carried_all wire carrying (limit - turn) s ≡ end → carried_all wire carrying (limit - (turn + 1)) t ≡ end
  one_turn limit turn s t end a h e ok l i =
      ⊎_elim
      (λ x.
      let k = limit - (turn + 1) in
      let q : t ≡ carrying s 0 = e ∙ ap (λ j. cond (is_ok j) (carrying s 0) s) (h ∙ cond-true _ _ _ x) in
      let m : suc k ≡ limit - turn = omega arith in
      ap (carried_all wire carrying k) q ∙ sym (cond-true (ltb 0 (length (wire s))) (carried_all wire carrying k (carrying s 0)) s x) ∙ ap (λ j. carried_all wire carrying j s) m ∙ i)
      (λ x. absurd (both_ways (is_err a) ok (ap is_err (h ∙ cond-false _ _ _ x))))
      (cases_Bool (ltb 0 (length (wire s))))

  no_item : (k : ℕ) (s : S) → ltb 0 (length (wire s)) ≡ false → carried_all wire carrying k s ≡ s
  no_item zero s x = refl
  no_item (suc k) s x = cond-false (ltb 0 (length (wire s))) _ s x

  pub no_item_left : (k : ℕ) (s t end : S) (a : Result Unit Refusal) → a ≡ cond (ltb 0 (length (wire s))) (Ok tt) (Err NoSuchItem) → t ≡ cond (is_ok a) (carrying s 0) s → is_err a ≡ true → carried_all wire carrying k s ≡ end → t ≡ end
  no_item_left k s t end a h e out i =
      ⊎_elim
      (λ x. absurd (both_ways (is_err a) (ap is_err (h ∙ cond-true _ _ _ x)) out))
      (λ x. e ∙ ap (λ j. cond (is_ok j) (carrying s 0) s) (h ∙ cond-false _ _ _ x) ∙ sym (no_item k s x) ∙ i)
      (cases_Bool (ltb 0 (length (wire s))))

  pub no_turn_left : (limit turn : ℕ) (s end : S) → limit ≤ turn → carried_all wire carrying (limit - turn) s ≡ end → s ≡ end
  no_turn_left limit turn s end l i = let m : 0 ≡ limit - turn = omega arith in ap (λ j. carried_all wire carrying j s) m ∙ i

-- What is certain of the carries of any broadcast and any consensus.
pub record Carries {S : Type 0} (net : S → Net) (made : S → Type 0) (carrying : S → ℕ → S) : Type 0 where
  pub keeps : (s : S) → made s → carry_answer (net s) 0 ≡ Ok tt → made (carrying s 0)
  pub falls : (s : S) → made s → carry_answer (net s) 0 ≡ Ok tt → (net (carrying s 0)).work < (net s).work
  pub covers : (s : S) → made s → length (net s).wire ≤ (net s).work

pub of_broadcast : {X : Type 0} (b : Broadcasts X) → broadcasting.Meaning (shown b) b.made b.bound b.start b.posting b.carrying b.losing b.crashing b.suspecting → Carries (λ s. (shown b s).net) b.made b.carrying
of_broadcast b m =
    record { keeps = λ s. m.carry_made s 0; falls = λ s g h. (m.carry_means s 0 g h).net.work_falls; covers = λ s g. (m.lawful s g).net.work_covers_wire }

pub of_consensus : {X : Type 0} (c : Consensuses X) → deciding.Meaning (told c) c.made c.bound c.start c.proposing c.carrying c.losing c.crashing c.suspecting → Carries (λ s. (told c s).net) c.made c.carrying
of_consensus c m =
    record { keeps = λ s. m.carry_made s 0; falls = λ s g h. (m.carry_means s 0 g h).net.work_falls; covers = λ s g. (m.lawful s g).net.work_covers_wire }

module _ {S : Type 0} (net : S → Net) (made : S → Type 0) (carrying : S → ℕ → S) (law : Carries net made carrying) where
  all_made : (k : ℕ) (s : S) → made s → made (carried_all (λ s. (net s).wire) carrying k s)
  all_made zero s g = g
  all_made (suc k) s g =
      ⊎_elim
      (λ t. subst made (sym (cond-true (ltb 0 (length (net s).wire)) _ _ t)) (all_made k (carrying s 0) (law.keeps s g (cond-true _ _ _ t))))
      (λ t. subst made (sym (cond-false (ltb 0 (length (net s).wire)) _ _ t)) g)
      (cases_Bool (ltb 0 (length (net s).wire)))

  all_emptied : (k : ℕ) (s : S) → made s → (net s).work ≤ k → (net (carried_all (λ s. (net s).wire) carrying k s)).wire ≡ []
  all_emptied zero s g h = nil_from_length _ (omega (arith, law.covers s g))
  all_emptied (suc k) s g h =
      ⊎_elim
      (λ t.
      ap (λ z. (net z).wire) (cond-true (ltb 0 (length (net s).wire)) _ _ t)
      ∙ all_emptied k (carrying s 0) (law.keeps s g (cond-true _ _ _ t)) (omega (arith, law.falls s g (cond-true _ _ _ t))))
      (λ t. ap (λ z. (net z).wire) (cond-false (ltb 0 (length (net s).wire)) _ _ t) ∙ nil_from_length _ (let z = ltb-false 0 (length (net s).wire) t in omega arith))
      (cases_Bool (ltb 0 (length (net s).wire)))

  -- What carrying leaves is made too, and without items if the limit covers the work.
  pub carried : (k : ℕ) (s t : S) → t ≡ carried_all (λ s. (net s).wire) carrying k s → (made s → made t) × (made s → (net s).work ≤ k → (net t).wire ≡ [])
  carried k s t e = (λ g. subst made (sym e) (all_made k s g), λ g h. ap (λ z. (net z).wire) e ∙ all_emptied k s g h)

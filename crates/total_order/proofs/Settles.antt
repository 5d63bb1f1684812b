-- Settling, one step at a time.
use Rattle.std.proofs.Common.{◌≡◌, ℕ, zero, suc, ◌+◌, ◌-◌, ◌<◌, ◌≤◌, true, false, refl, ap, ◌∙◌, arith}
use Rattle.std.proofs.lemmas.Bool.{cond-true, cond-false}
use Rattle.parts.specs.declared.broadcast.Broadcast.{Ghosts as Broadcasts}
use Rattle.parts.specs.declared.consensus.Consensus.{Ghosts as Consensuses}
use Rattle.total_order.specs.Carrying.{Carrying, at_rest, advanced, settled, settle_steps}

one_left : (n made : ℕ) → made < n → n - made ≡ suc (n - (made + 1))
one_left n made l = omega (arith, l)

no_less : (n made : ℕ) → n ≤ made → n - made ≡ 0
no_less n made l = omega (arith, l)

module _ {X Y : Type 0} (b : Broadcasts X) (c : Consensuses Y) where
  pub settled_at_rest : (n : ℕ) (s : Carrying b c) → at_rest b c s ≡ true → settled b c n s ≡ s
  unfolding settled
  settled_at_rest zero s r = grind (arith, r)
  settled_at_rest (suc n) s r = cond-true _ _ _ r

  pub steps_at_rest : (n : ℕ) (s : Carrying b c) → at_rest b c s ≡ true → settle_steps b c n s ≡ 0
  unfolding settle_steps
  steps_at_rest zero s r = refl
  steps_at_rest (suc n) s r = cond-true _ _ _ r

  -- Of n steps at most, so many were made; one more leaves the same, and is one of those that were still to be made.
  pub settled_further : (n made : ℕ) (s : Carrying b c) → made < n → at_rest b c s ≡ false → settled b c (n - made) s ≡ settled b c (n - (made + 1)) (advanced b c s)
  unfolding settled
  settled_further n made s l r = ap (λ k. settled b c k s) (one_left n made l) ∙ cond-false _ _ _ r

  pub steps_further : (n made : ℕ) (s : Carrying b c) → made < n → at_rest b c s ≡ false → settle_steps b c (n - made) s ≡ settle_steps b c (n - (made + 1)) (advanced b c s) + 1
  unfolding settle_steps
  steps_further n made s l r =
      let more : suc (settle_steps b c (n - (made + 1)) (advanced b c s)) ≡ settle_steps b c (n - (made + 1)) (advanced b c s) + 1 = omega arith in
      ap (λ k. settle_steps b c k s) (one_left n made l) ∙ cond-false _ _ _ r ∙ more

  -- None is left to be made.
  pub settled_in_full : (n made : ℕ) (s : Carrying b c) → n ≤ made → settled b c (n - made) s ≡ settled b c 0 s
  settled_in_full n made s l = ap (λ k. settled b c k s) (no_less n made l)

  pub steps_in_full : (n made : ℕ) (s : Carrying b c) → n ≤ made → settle_steps b c (n - made) s ≡ 0
  unfolding settle_steps
  steps_in_full n made s l = ap (λ k. settle_steps b c k s) (no_less n made l)

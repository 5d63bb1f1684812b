-- The places of a list with an item more.
use Rattle.std.proofs.Common.{◌≡◌, ℕ, ◌<◌, List, [], ◌∷◌, ◌++◌, length, get_or, sym, refl, subst, ⊎_elim, arith}
use Rattle.std.proofs.lemmas.List.{get_or_append_left, get_or_push, length_push}
use Rattle.std.proofs.lemmas.Bool.{cases_eq}

module _ {X : Type 0} (xs : List X) (x d : X) where
  pub old_place : (i : ℕ) → i < length xs → get_or (xs ++ (x ∷ [])) i d ≡ get_or xs i d
  old_place i l = get_or_append_left xs (x ∷ []) d i l

  pub new_place : get_or (xs ++ (x ∷ [])) (length xs) d ≡ x
  new_place = get_or_push xs x d (length xs) refl

  -- What holds at each old place and at the new one.
  pub each_place : (P : ℕ → X → Type 0) → ((i : ℕ) → i < length xs → P i (get_or xs i d)) → P (length xs) x → (i : ℕ) → i < length (xs ++ (x ∷ [])) → P i (get_or (xs ++ (x ∷ [])) i d)
  each_place P old new i l =
      let n = length_push xs x in
      ⊎_elim (λ e. subst (λ j. P j (get_or (xs ++ (x ∷ [])) j d)) (sym e) (subst (P (length xs)) (sym new_place) new)) (λ e. let o : i < length xs = omega (arith, e) in subst (P i) (sym (old_place i o)) (old i o))
      (cases_eq i (length xs))

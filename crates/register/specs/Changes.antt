-- What a proposal and a carry change in the tables of a register.
use Rattle.std.specs.Prelude.{◌≡◌, ℕ, ◌<◌, Bool, true, false, cond, ◌&&◌, ◌||◌, ◌⊎◌, List, length, is_some, Some, None, Option, ◌==◌, slice_set, refl}
use Rattle.std.proofs.Common.{sym, ap, ◌∙◌, inl, inr, ⊎_elim, length-set, get_or-set_same, get_or-set_other}
use borrow.Author.Tests.{clash}
use Rattle.std.proofs.lemmas.Bool.{cases_Bool, cond-true, cond-false, cond_both, and_parts, eqb-true}
use Rattle.parts.proofs.Lists.{get_or-set}
use Rattle.register.specs.Held.{held_in, filled}

-- A place that may have been written.

pub some_or : (b : Bool) (s : ℕ) (o : Option ℕ) → is_some (cond b (Some s) o) ≡ (b || is_some o)
some_or true s o = refl
some_or false s o = refl

pub which : {X : Type 0} (b : Bool) (x y z : X) → cond b x y ≡ z → ((b ≡ true) × (x ≡ z)) ⊎ ((b ≡ false) × (y ≡ z))
which true x y z e = inl (refl, e)
which false x y z e = inr (refl, e)

pub same_place : (a b c d : ℕ) → (a == c && b == d) ≡ true → (a ≡ c) × (b ≡ d)
same_place a b c d h = let p = and_parts _ _ h in (eqb-true a c p.0, eqb-true b d p.1)

-- Registers.

pub filled_length : (t : List (Option ℕ)) (k : ℕ) (o : Option ℕ) → length (filled t k o) ≡ length t
filled_length t k o = cond_both (is_some (held_in t k)) t (slice_set t k o) (λ l. length l ≡ length t) (λ _. refl) (λ _. length-set t k o)

-- What a register holds stays.
pub filled_stays : (t : List (Option ℕ)) (k j s : ℕ) (o : Option ℕ) → held_in t j ≡ Some s → held_in (filled t k o) j ≡ Some s
filled_stays t k j s o e =
    ⊎_elim
    (λ b. ap (λ l. held_in l j) (cond-true (is_some (held_in t k)) t (slice_set t k o) b) ∙ e)
    (λ b. ap (λ l. held_in l j) (cond-false (is_some (held_in t k)) t (slice_set t k o) b) ∙ get_or-set_other t k j o None (λ z. clash (sym b ∙ ap is_some (sym (ap (held_in t) z) ∙ e))) ∙ e)
    (cases_Bool (is_some (held_in t k)))

-- It is not empty after that.
pub filled_holds : (t : List (Option ℕ)) (k s : ℕ) (o : Option ℕ) → k < length t → o ≡ Some s → is_some (held_in (filled t k o) k) ≡ true
filled_holds t k s o h e =
    ⊎_elim
    (λ b. ap (λ l. is_some (held_in l k)) (cond-true (is_some (held_in t k)) t (slice_set t k o) b) ∙ b)
    (λ b. ap (λ l. is_some (held_in l k)) (cond-false (is_some (held_in t k)) t (slice_set t k o) b) ∙ ap is_some (get_or-set_same t k o None h ∙ e))
    (cases_Bool (is_some (held_in t k)))

-- It holds what it held, or what filled it.
pub filled_from : (t : List (Option ℕ)) (k j s : ℕ) (o : Option ℕ) → k < length t → held_in (filled t k o) j ≡ Some s → (held_in t j ≡ Some s) ⊎ ((j ≡ k) × (o ≡ Some s))
filled_from t k j s o h e =
    ⊎_elim
    (λ b. inl (sym (ap (λ l. held_in l j) (cond-true (is_some (held_in t k)) t (slice_set t k o) b)) ∙ e))
    (λ b.
    let w = sym (get_or-set t k j o None h) ∙ sym (ap (λ l. held_in l j) (cond-false (is_some (held_in t k)) t (slice_set t k o) b)) ∙ e in
    ⊎_elim (λ z. inr (eqb-true j k z.0, z.1)) (λ z. inl z.1) (which (j == k) o (held_in t j) (Some s) w))
    (cases_Bool (is_some (held_in t k)))

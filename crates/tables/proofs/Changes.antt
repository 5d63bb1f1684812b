-- What a post and a hand-over change in the tables of a part.
use Rattle.std.proofs.Common.{◌≡◌, ℕ, ◌^◌, ◌<◌, true, ◌&&◌, ◌||◌, eqb, ltb, List, length, set, is_some, Some, None, Option, sym, refl, ap, ◌∙◌, subst, ⊎_elim, arith, get_or-set_other}
use borrow.Author.Tests.{clash}
use lib.Bits.{bit_or, or_lt}
use lib.Pow.{pow-lt}
use Rattle.std.proofs.lemmas.List.{get_or_past}
use Rattle.std.proofs.lemmas.Bool.{cases_Bool, cases_lt, cond-true, cond-false, cond_both, eqb-true, eq-eqb, lt-ltb, ltb-true}
use Rattle.std.proofs.lemmas.Bool.Decides.{nat_tests}
use Rattle.notes.specs.Sets.{has, added}
use Rattle.notes.proofs.Bits.{has_added, has_union}
use Rattle.tables.specs.Tables.{poster_in, set_in, with_note, with_notes}
use Rattle.parts.proofs.Lists.{get_or-set}

-- Who has posted, after one post more.
pub posted_more : (t : List (Option ℕ)) (m p k : ℕ) → m < length t → is_some (poster_in (set t m (Some p)) k) ≡ (eqb k m || is_some (poster_in t k))
posted_more t m p k h = rw (get_or-set t m k (Some p) None h) (grind (arith, nat_tests))

pub posted_below : (t : List (Option ℕ)) (n m : ℕ) → length t ≡ n → is_some (poster_in t m) ≡ true → m < n
posted_below t n m e h = ⊎_elim (λ l. l) (λ l. absurd (clash (sym (ap is_some (get_or_past t m None (omega arith))) ∙ h))) (cases_lt m n)

-- What holds of the new poster and of the old ones.
pub poster_each : (P : ℕ → ℕ → Type 0) (t : List (Option ℕ)) (m p : ℕ) → m < length t → P m p → ((k q : ℕ) → poster_in t k ≡ Some q → P k q) → (k q : ℕ) → poster_in (set t m (Some p)) k ≡ Some q → P k q
poster_each P t m p l h f k q e =
    ⊎_elim
    (λ s. let z : p ≡ q = let a = cond-true (eqb k m) (Some p) (poster_in t k) s in let b = get_or-set t m k (Some p) None l in cc in subst (λ r. P k r) z (subst (λ r. P r p) (sym (eqb-true k m s)) h))
    (λ s. f k q (sym (cond-false (eqb k m) (Some p) (poster_in t k) s) ∙ sym (get_or-set t m k (Some p) None l) ∙ e))
    (cases_Bool (eqb k m))

-- Which sets hold a note, after one set got one note more.
pub noted_more : (t : List ℕ) (p m q k : ℕ) → p < length t → m < 32 → has (set_in (with_note t p m) q) k ≡ (has (set_in t q) k || (eqb q p && eqb k m))
noted_more t p m q k h l =
    let a = has_added (set_in t p) m k in
    let b = lt-ltb m 32 l in
    ap (λ s. has s k) (get_or-set t p q (added (set_in t p) m) 0 h)
    ∙ ⊎_elim
    (λ s. rw (eqb-true q p s) (let e = eq-eqb p p refl in grind (arith, nat_tests, a, b, e)))
    (λ s. grind (arith, nat_tests))
    (cases_Bool (eqb q p))

pub noted_others_stay : (t : List ℕ) (p m q : ℕ) → (q ≡ p → ⊥) → set_in (with_note t p m) q ≡ set_in t q
noted_others_stay t p m q n = get_or-set_other t p q (added (set_in t p) m) 0 n

added_fits : (s m : ℕ) → s < 2 ^ 32 → added s m < 2 ^ 32
added_fits s m h = cond_both (ltb m 32) (bit_or s (2 ^ m)) s (λ z. z < 2 ^ 32) (λ t. or_lt 32 s (2 ^ m) h (pow-lt (ltb-true m 32 t))) (λ _. h)

pub noted_fits : (t : List ℕ) (p m q : ℕ) → p < length t → ((r : ℕ) → set_in t r < 2 ^ 32) → set_in (with_note t p m) q < 2 ^ 32
noted_fits t p m q h f = rw (get_or-set t p q (added (set_in t p) m) 0 h) (cond_both (eqb q p) (added (set_in t p) m) (set_in t q) (λ z. z < 2 ^ 32) (λ _. added_fits (set_in t p) m (f p)) (λ _. f q))

-- Which sets hold a note, after one set got all notes of another.
pub noted_all : (t : List ℕ) (p s q k : ℕ) → p < length t → has (set_in (with_notes t p s) q) k ≡ (has (set_in t q) k || (eqb q p && has s k))
noted_all t p s q k h =
    let a = has_union (set_in t p) s k in
    ap (λ z. has z k) (get_or-set t p q (bit_or (set_in t p) s) 0 h)
    ∙ ⊎_elim
    (λ e. rw (eqb-true q p e) (let b = eq-eqb p p refl in grind (arith, nat_tests, a, b)))
    (λ e. grind (arith, nat_tests))
    (cases_Bool (eqb q p))

pub noted_all_others_stay : (t : List ℕ) (p s q : ℕ) → (q ≡ p → ⊥) → set_in (with_notes t p s) q ≡ set_in t q
noted_all_others_stay t p s q n = get_or-set_other t p q (bit_or (set_in t p) s) 0 n

pub noted_all_fits : (t : List ℕ) (p s q : ℕ) → p < length t → s < 2 ^ 32 → ((r : ℕ) → set_in t r < 2 ^ 32) → set_in (with_notes t p s) q < 2 ^ 32
noted_all_fits t p s q h l f = rw (get_or-set t p q (bit_or (set_in t p) s) 0 h) (cond_both (eqb q p) (bit_or (set_in t p) s) (set_in t q) (λ z. z < 2 ^ 32) (λ _. or_lt 32 (set_in t p) s (f p) l) (λ _. f q))

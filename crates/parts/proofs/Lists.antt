-- Tables as lists: what is read after a write, and in a new table.
use Rattle.std.proofs.Common.{◌≡◌, ℕ, zero, suc, ◌<◌, cond, ◌&&◌, eqb, List, [], length, get_or, set, replicate, sym, refl, ap, ◌∙◌, subst, ⊎_elim, arith, length-set, get_or-set_other, get_or-set_same}
use Rattle.std.proofs.lemmas.Bool.{cases_eq, eqb-true, eq-eqb, ne_eqb, cond-true, cond-false, cond_both}

-- A write changes its own place only.
pub get_or-set : {X : Type 0} (xs : List X) (i j : ℕ) (a d : X) → i < length xs → get_or (set xs i a) j d ≡ cond (eqb j i) a (get_or xs j d)
get_or-set xs i j a d h =
    ⊎_elim
    (λ e. rw e (get_or-set_same xs i a d h ∙ sym (cond-true (eqb i i) a (get_or xs i d) (eq-eqb i i refl))))
    (λ n. get_or-set_other xs i j a d n ∙ sym (cond-false (eqb j i) a (get_or xs j d) (ne_eqb j i n)))
    (cases_eq j i)

-- A new table reads the same everywhere.
pub same_all : {X : Type 0} (n i : ℕ) (d : X) → get_or (replicate n d) i d ≡ d
same_all zero i d = refl
same_all (suc n) zero d = refl
same_all (suc n) (suc i) d = same_all n i d

pub same_rows : {X : Type 0} (n k q p : ℕ) (d : X) → get_or (get_or (replicate n (replicate k d)) q []) p d ≡ d
same_rows zero k q p d = refl
same_rows (suc n) k zero p d = same_all k p d
same_rows (suc n) k (suc q) p d = same_rows n k q p d

pub new_row : {X : Type 0} (n q : ℕ) (xs : List X) → q < n → length (get_or (replicate n xs) q []) ≡ length xs
new_row zero q xs h = absurd (omega arith)
new_row (suc n) zero xs h = refl
new_row (suc n) (suc q) xs h = new_row n q xs (omega arith)

-- A write into a row changes its own place only, and no length.
pub row_written : {X : Type 0} (rows : List (List X)) (q p a b : ℕ) (v d : X) → q < length rows → p < length (get_or rows q [])
    → get_or (get_or (set rows q (set (get_or rows q []) p v)) a []) b d ≡ cond (eqb a q && eqb b p) v (get_or (get_or rows a []) b d)
row_written rows q p a b v d hq hp =
    ap (λ r. get_or r b d) (get_or-set rows q a (set (get_or rows q []) p v) [] hq)
    ∙ ⊎_elim
    (λ e. rw (eq-eqb a q e) (get_or-set (get_or rows q []) p b v d hp ∙ ap (λ z. cond (eqb b p) v (get_or (get_or rows z []) b d)) (sym e)))
    (λ n. rw (ne_eqb a q n) refl)
    (cases_eq a q)

pub rows_kept : {X : Type 0} (rows : List (List X)) (m n q p : ℕ) (v : X) → q < length rows → ((a : ℕ) → a < m → length (get_or rows a []) ≡ n)
    → (a : ℕ) → a < m → length (get_or (set rows q (set (get_or rows q []) p v)) a []) ≡ n
rows_kept rows m n q p v h r a l =
    rw (get_or-set rows q a (set (get_or rows q []) p v) [] h)
    (cond_both (eqb a q) (set (get_or rows q []) p v) (get_or rows a []) (λ z. length z ≡ n) (λ e. simp length-set (subst (λ z. length (get_or rows z []) ≡ n) (eqb-true a q e) (r a l))) (λ _. r a l))

-- What holds of all items of a list, and of some, as items join, are taken and are let go.
use Rattle.std.proofs.Common.{◌≡◌, ℕ, zero, suc, ◌<◌, ◌≤◌, Bool, true, cond, ◌||◌, List, [], ◌∷◌, map, length, take, drop, Some, filter, ap, ◌∙◌, subst, ⊎_elim, arith}
use Rattle.std.specs.List.{slice_get, remove, list_any, AllByRecursion}
use Rattle.std.proofs.ByRecursion.{All-append, All-take, All-drop}
use Rattle.std.proofs.lemmas.List.Folds.{list_any-append}
use Rattle.std.proofs.lemmas.List.Sums.{length-filter, count_by-le-length}
use Rattle.std.proofs.lemmas.Bool.{cases_lt, cond-true, cond_both, or_left, or_right, or_cases}
use Rattle.std.proofs.lemmas.Bool.Decides.{nat_tests}
use Rattle.parts.specs.Nets.{PartOf}
use Rattle.parts.specs.Nets.PartOf.{none, stays, leaves}
use Rattle.cards.specs.Cards.{CardState}
use Rattle.wire.specs.Wires.{item, goes_to, sent}
use Rattle.wire.specs.declared.Item.{Item}

-- All items.

pub all_removed : {X : Type 0} (P : X → Type 0) (xs : List X) (i : ℕ) → AllByRecursion P xs → AllByRecursion P (remove xs i)
all_removed P xs i h = All-append P (take i xs) (drop (suc i) xs) (All-take P i xs h) (All-drop P (suc i) xs h)

pub all_nth : {X : Type 0} (P : X → Type 0) (xs : List X) (i : ℕ) (y : X) → AllByRecursion P xs → slice_get xs i ≡ Some y → P y
all_nth P [] i y h e = absurd (let z : ◌≡◌ {A = ℕ} 0 1 = cc in omega arith)
all_nth P (x ∷ xs) zero y h e = let z : x ≡ y = cc in subst P z h.0
all_nth P (x ∷ xs) (suc i) y h e = all_nth P xs i y h.1 e

pub all_left : {X : Type 0} (P Q : X → Type 0) (keep : X → Bool) (xs : List X) → ((x : X) → P x → keep x ≡ true → Q x) → AllByRecursion P xs → AllByRecursion Q (filter keep xs)
all_left P Q keep [] f h = h
all_left P Q keep (x ∷ xs) f h =
    cond_both (keep x) (x ∷ filter keep xs) (filter keep xs) (AllByRecursion Q) (λ t. (f x h.0 t, all_left P Q keep xs f h.1)) (λ _. all_left P Q keep xs f h.1)

pub all_sent_are : {L : Type 0} (P : Item L → Type 0) (c : CardState) (from : ℕ) (load : L) (k : ℕ) → ((to : ℕ) → to < k → goes_to c from to ≡ true → P (item from to load)) → AllByRecursion P (sent c from load k)
all_sent_are P c from load zero f = tt
all_sent_are P c from load (suc k) f =
    All-append P (sent c from load k) (cond (goes_to c from k) (item from k load ∷ []) []) (all_sent_are P c from load k (λ to l. f to (omega arith)))
    (cond_both (goes_to c from k) (item from k load ∷ []) [] (AllByRecursion P) (λ t. (f k (omega arith) t, tt)) (λ _. tt))

-- Some item.

-- The item at a place, or one of the rest.
pub any_split : {X : Type 0} (t : X → Bool) (xs : List X) (i : ℕ) (y : X) → slice_get xs i ≡ Some y → list_any t xs ≡ (t y || list_any t (remove xs i))
any_split t [] i y e = absurd (let z : ◌≡◌ {A = ℕ} 0 1 = cc in omega arith)
any_split t (x ∷ xs) zero y e = let z : x ≡ y = cc in ap (λ w. t w || list_any t xs) z
any_split t (x ∷ xs) (suc i) y e = let h = any_split t xs i y e in grind (arith, nat_tests, h)

pub any_left : {X : Type 0} (t keep : X → Bool) (xs : List X) → ((x : X) → t x ≡ true → keep x ≡ true) → list_any t xs ≡ true → list_any t (filter keep xs) ≡ true
any_left t keep [] f h = h
any_left t keep (x ∷ xs) f h =
    ⊎_elim
    (λ e. rw (cond-true (keep x) (x ∷ filter keep xs) (filter keep xs) (f x e)) (or_left _ _ e))
    (λ e. cond_both (keep x) (x ∷ filter keep xs) (filter keep xs) (λ l. list_any t l ≡ true) (λ _. or_right _ _ (any_left t keep xs f e)) (λ _. any_left t keep xs f e))
    (or_cases _ _ h)

pub any_sent : {L : Type 0} (t : Item L → Bool) (c : CardState) (from : ℕ) (load : L) (k to : ℕ) → to < k → goes_to c from to ≡ true → t (item from to load) ≡ true → list_any t (sent c from load k) ≡ true
any_sent t c from load zero to l g h = absurd (omega arith)
any_sent t c from load (suc k) to l g h =
    list_any-append t (sent c from load k) (cond (goes_to c from k) (item from k load ∷ []) [])
    ∙ ⊎_elim
    (λ m. or_left _ _ (any_sent t c from load k to m g h))
    (λ m. let e : to ≡ k = omega arith in
    or_right _ _ (ap (list_any t) (cond-true (goes_to c from k) (item from k load ∷ []) [] (subst (λ j. goes_to c from j ≡ true) e g)) ∙ or_left _ _ (subst (λ j. t (item from j load) ≡ true) e h)))
    (cases_lt to k)

-- The senders of what is left are a part of the senders.
pub part_left : {X : Type 0} (f : X → ℕ) (keep : X → Bool) (xs : List X) → PartOf (map f (filter keep xs)) (map f xs)
part_left f keep [] = none
part_left f keep (x ∷ xs) =
    cond_both (keep x) (x ∷ filter keep xs) (filter keep xs) (λ l. PartOf (map f l) (f x ∷ map f xs)) (λ _. stays (f x) (part_left f keep xs)) (λ _. leaves (f x) (part_left f keep xs))

pub part_all : (xs : List ℕ) → PartOf xs xs
part_all [] = none
part_all (x ∷ xs) = stays x (part_all xs)

pub length_left : {X : Type 0} (keep : X → Bool) (xs : List X) → length (filter keep xs) ≤ length xs
length_left keep xs = omega (arith, length-filter keep xs, count_by-le-length keep xs)

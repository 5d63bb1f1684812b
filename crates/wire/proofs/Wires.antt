-- The wire: items by place, and room for what is sent.
use Rattle.std.proofs.Common.{◌≡◌, ℕ, zero, suc, ◌+◌, ◌<◌, ◌≤◌, true, false, cond, ltb, List, [], ◌∷◌, ◌++◌, length, is_some, sym, ap, ◌∙◌, ⊎_elim, append_assoc, append-nil, arith}
use Rattle.std.specs.List.{slice_get, remove}
use Rattle.std.proofs.lemmas.List.{nil_from_length, length-append, length-map}
use Rattle.std.proofs.lemmas.Bool.{cases_Bool, cases_lt, cond-true, cond-false, cond_both, and_right, not_from_true, eq-eqb, lt-ltb, le-ltb}
use Rattle.std.proofs.lemmas.Bool.Decides.{nat_tests}
use Rattle.cards.specs.Cards.{CardState}
use Rattle.wire.specs.Wires.{item, senders, joined, goes_to, sending, sent}
use Rattle.wire.specs.declared.Item.{Item}

-- What stands at a place.

pub nth_there : {X : Type 0} (xs : List X) (i : ℕ) → is_some (slice_get xs i) ≡ ltb i (length xs)
nth_there [] i = sym (le-ltb i 0 (omega arith))
nth_there (x ∷ xs) zero = sym (lt-ltb 0 (suc (length xs)) (omega arith))
nth_there (x ∷ xs) (suc i) = let e = nth_there xs i in grind (arith, nat_tests, e)

pub removed_shorter : {X : Type 0} (xs : List X) (i : ℕ) → length (remove xs i) ≤ length xs
removed_shorter [] zero = omega arith
removed_shorter [] (suc i) = omega arith
removed_shorter (x ∷ xs) zero = omega arith
removed_shorter (x ∷ xs) (suc i) = let h : length (remove xs i) ≤ length xs = removed_shorter xs i in omega arith

pub length_senders : {P : Type 0} (xs : List (Item P)) → length (senders xs) ≡ length xs
length_senders xs = length-map xs (λ x. x.from)

-- A wire without senders is empty.
pub nothing_left : {P : Type 0} (xs : List (Item P)) → senders xs ≡ [] → xs ≡ []
nothing_left xs e = nil_from_length xs (sym (length_senders xs) ∙ ap length e)

-- All that is sent finds room, where there is room for so many.

pub length_sent : {P : Type 0} (c : CardState) (from : ℕ) (load : P) (k : ℕ) → length (sent c from load k) ≤ k
length_sent c from load zero = omega arith
length_sent c from load (suc k) =
    let one = item from k load ∷ [] in
    let h = length_sent c from load k in
    ⊎_elim
    (λ t. rw (cond-true (goes_to c from k) one [] t) (omega (arith, length-append (sent c from load k) one)))
    (λ t. rw (cond-false (goes_to c from k) one [] t) (omega (arith, length-append (sent c from load k) [])))
    (cases_Bool (goes_to c from k))

pub all_sent : {P : Type 0} (room : ℕ) (c : CardState) (from : ℕ) (load : P) (k : ℕ) (xs : List (Item P)) → length xs + length (sent c from load k) ≤ room → sending room c from load k xs ≡ xs ++ sent c from load k
all_sent room c from load zero xs h = sym (append-nil xs)
all_sent room c from load (suc k) xs h =
    let one = item from k load ∷ [] in
    let more : List (Item _) = cond (goes_to c from k) one [] in
    let ys = sending room c from load k xs in
    let n = length-append (sent c from load k) more in
    let e = all_sent room c from load k xs (omega arith) in
    let l = ap length e ∙ length-append xs (sent c from load k) in
    ⊎_elim
    (λ g. let t : ltb (length ys) room ≡ true = lt-ltb _ _ (let o = ap length (cond-true (goes_to c from k) one [] g) in omega arith) in
    cond-true (goes_to c from k) _ _ g ∙ cond-true (ltb (length ys) room) _ _ t ∙ ap (λ zs. zs ++ one) e ∙ append_assoc xs (sent c from load k) one
    ∙ ap (λ zs. xs ++ (sent c from load k ++ zs)) (sym (cond-true (goes_to c from k) one [] g)))
    (λ g. cond-false (goes_to c from k) _ _ g ∙ e ∙ ap (λ zs. xs ++ zs) (sym (append-nil (sent c from load k)))
    ∙ ap (λ zs. xs ++ (sent c from load k ++ zs)) (sym (cond-false (goes_to c from k) one [] g)))
    (cases_Bool (goes_to c from k))

pub length_sending : {P : Type 0} (room : ℕ) (c : CardState) (from : ℕ) (load : P) (k : ℕ) (xs : List (Item P)) → length (sending room c from load k xs) ≤ length xs + k
length_sending room c from load zero xs = omega arith
length_sending room c from load (suc k) xs =
    let ys = sending room c from load k xs in
    let x = item from k load in
    let h = length_sending room c from load k xs in
    cond_both (goes_to c from k) (joined room ys x) ys (λ l. length l ≤ length xs + suc k)
    (λ _. cond_both (ltb (length ys) room) (ys ++ x ∷ []) ys (λ l. length l ≤ length xs + suc k) (λ _. omega (arith, length-append ys (x ∷ []))) (λ _. omega arith))
    (λ _. omega arith)

-- A sender that is one of the cards sends to one less.
pub length_sent_others : {P : Type 0} (c : CardState) (from : ℕ) (load : P) (k : ℕ) → from < k → length (sent c from load k) + 1 ≤ k
length_sent_others c from load zero h = absurd (omega arith)
length_sent_others c from load (suc k) h =
    let one = item from k load ∷ [] in
    let n = length-append (sent c from load k) (cond (goes_to c from k) one []) in
    ⊎_elim
    (λ l. let r = length_sent_others c from load k l in
    let o : length (cond (goes_to c from k) one []) ≤ 1 = cond_both (goes_to c from k) one [] (λ z. length z ≤ 1) (λ _. omega arith) (λ _. omega arith) in
    omega arith)
    (λ l. let e : k ≡ from = omega arith in
    let g : goes_to c from k ≡ false = and_right _ _ (not_from_true _ (eq-eqb k from e)) in
    let o = ap length (cond-false (goes_to c from k) one [] g) in
    let r = length_sent c from load k in omega arith)
    (cases_lt from k)

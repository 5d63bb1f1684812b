-- One turn more of a card that moves as often as it can, and of one that moves in one instance after the other.
use Rattle.std.proofs.Common.{◌≡◌, ℕ, zero, suc, ◌+◌, ◌≤◌, true, false, ap, refl, ◌∙◌, ⊎_elim, add-one, arith}
use Rattle.std.proofs.lemmas.Bool.{cases_eq, cond-true, cond-false}
use Rattle.flooding.specs.Flooding.{FloodingState, may_move, move_on, step_on, steps_on, settle_on, through_on}

pub steps_none : (x : FloodingState) (k q : ℕ) → steps_on x k q 0 ≡ x
unfolding steps_on
steps_none x k q = refl

pub steps_more : (x : FloodingState) (k q m : ℕ) → may_move (steps_on x k q m) k q ≡ true → steps_on x k q (m + 1) ≡ move_on (steps_on x k q m) k q
unfolding steps_on
steps_more x k q m h = ap (steps_on x k q) (add-one m) ∙ cond-true (may_move (steps_on x k q m) k q) (move_on (steps_on x k q m) k q) (steps_on x k q m) h

-- A card that may not move stays as it is, however many turns are left.
pub steps_end : (x : FloodingState) (k q m n : ℕ) → m ≤ n → may_move (steps_on x k q m) k q ≡ false → steps_on x k q n ≡ steps_on x k q m
unfolding steps_on
steps_end x k q m zero l h = let e : 0 ≡ m = omega arith in ap (steps_on x k q) e
steps_end x k q m (suc n) l h =
    let y = steps_on x k q m in
    ⊎_elim
    (λ (e : suc n ≡ m). ap (steps_on x k q) e)
    (λ e. ap (λ z. step_on z k q) (steps_end x k q m n (omega (arith, e)) h) ∙ cond-false (may_move y k q) (move_on y k q) y h)
    (cases_eq (suc n) m)

pub through_none : (x : FloodingState) (q : ℕ) → through_on x q 0 ≡ x
unfolding through_on
through_none x q = refl

pub through_more : (x : FloodingState) (q m : ℕ) → through_on x q (m + 1) ≡ settle_on (through_on x q m) m q
unfolding through_on
through_more x q m = ap (through_on x q) (add-one m)

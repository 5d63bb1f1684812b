-- Whether every card is accounted for, card by card.
use Rattle.std.specs.Prelude.{◌≡◌, ℕ, zero, suc, ◌+◌, ◌<◌, true, ◌&&◌, refl}
use Rattle.std.specs.List.{list_all, range_with_len}
use Rattle.std.proofs.lemmas.Grind.{common_steps}
use Rattle.std.proofs.Common.{Decides, ap, ◌∙◌, arith}
use Rattle.std.proofs.Math.Bool.{and_comm}
use Rattle.std.proofs.lemmas.Bool.Decides.{Decides-below_and}
use Rattle.cards.specs.Cards.{CardState}
use Rattle.flooding.specs.Seats.{accounted_for, all_counted}
use Rattle.flooding.specs.declared.seats.Seat.{Seat}

module _ (c : CardState) (q : ℕ) (s : Seat) where
  all_from : (n a : ℕ) → (all_counted c q s a && list_all (accounted_for c q s) (range_with_len a n)) ≡ all_counted c q s (a + n)
  all_from zero a = grind (arith, common_steps)
  all_from (suc n) a =
      let e = all_from n (suc a) in
      grind (arith, common_steps)

  pub all_in_range : (n : ℕ) → list_all (accounted_for c q s) (range_with_len 0 n) ≡ all_counted c q s n
  all_in_range n = let e : 0 + n ≡ n = omega arith in all_from n 0 ∙ ap (all_counted c q s) e

  pub all_decides : (n : ℕ) → Decides (all_counted c q s n) ((m : ℕ) → m < n → accounted_for c q s m ≡ true)
  all_decides =
      Decides-below_and (accounted_for c q s) (λ m. accounted_for c q s m ≡ true) (all_counted c q s) (λ m. (λ e. e, λ e. e)) refl
      (λ n. and_comm (all_counted c q s n) (accounted_for c q s n))

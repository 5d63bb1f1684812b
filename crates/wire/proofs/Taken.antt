-- The item that an accepted carry or loss takes off the wire.
use Rattle.std.proofs.Common.{◌≡◌, ℕ, suc, ◌<◌, true, List, ◌++◌, length, get_or, take, drop, Some, unwrap_or, sym, ap, ◌∙◌, subst, arith, Ok}
use Rattle.std.specs.List.{slice_get, remove}
use Rattle.std.specs.Option.{option_map}
use Rattle.std.proofs.lemmas.List.Edits.{length-remove}
use Rattle.std.proofs.lemmas.List.{map-append, take-map, drop-map}
use Rattle.std.proofs.lemmas.Option.{slice_get-map, unwrap_or-slice_get}
use Rattle.std.proofs.lemmas.Bool.{lt-ltb}
use Rattle.parts.specs.Refusals.{carry_answer, lose_answer}
use Rattle.parts.specs.Nets.{NetLost}
use Rattle.parts.proofs.Accepted.{carry_accepted, lose_accepted}
use Rattle.parts.proofs.Options.{some_held}
use Rattle.cards.specs.Cards.{CardState, crashed_in, net_of}
use Rattle.wire.specs.Wires.{senders}
use Rattle.wire.specs.declared.Item.{Item}
use Rattle.cards.proofs.Nets.{same_cards}
use Rattle.wire.proofs.Wires.{nth_there, length_senders}

module _ {P : Type 0} (c : CardState) (xs : List (Item P)) (k i : ℕ) where
  there : i < length xs → (y : Item P) × (slice_get xs i ≡ Some y)
  there h = some_held (slice_get xs i) (nth_there xs i ∙ lt-ltb i (length xs) h)

  pub carried_item : carry_answer (net_of c (senders xs) k) i ≡ Ok tt → (y : Item P) × (slice_get xs i ≡ Some y) × (i < length xs)
  carried_item h =
      let l : i < length xs = omega (arith, carry_accepted (net_of c (senders xs) k) i h, length_senders xs) in
      let t = there l in
      (t.0, t.1, l)

  -- Its sender has crashed.
  pub lost_item : lose_answer (net_of c (senders xs) k) i ≡ Ok tt → (y : Item P) × (slice_get xs i ≡ Some y) × (i < length xs) × (crashed_in c y.from ≡ true)
  lost_item h =
      let f = lose_accepted (net_of c (senders xs) k) i h in
      let l : i < length xs = omega (arith, f.0, length_senders xs) in
      let t = there l in
      let e : get_or (senders xs) i 7 ≡ t.0.from = sym (unwrap_or-slice_get (senders xs) i 7) ∙ ap (λ o. unwrap_or o 7) (slice_get-map (λ x. x.from) xs i ∙ ap (option_map (λ x. x.from)) t.1) in
      (t.0, t.1, l, subst (λ s. crashed_in c s ≡ true) e f.1)

pub senders_removed : {P : Type 0} (xs : List (Item P)) (i : ℕ) → senders (remove xs i) ≡ remove (senders xs) i
senders_removed xs i =
    map-append (λ x. x.from) (take i xs) (drop (suc i) xs) ∙ ap (λ l. l ++ senders (drop (suc i) xs)) (sym (take-map (λ x. x.from) i xs)) ∙ ap (λ l. take i (senders xs) ++ l) (sym (drop-map (λ x. x.from) (suc i) xs))

-- Where the work is the wire's length, a loss is what the interfaces say.
pub net_lost : {P : Type 0} (c : CardState) (xs : List (Item P)) (i : ℕ) → i < length xs → NetLost (net_of c (senders xs) (length xs)) (net_of c (senders (remove xs i)) (length (remove xs i))) i
net_lost c xs i l = record { same_cards = same_cards c _ _ _ _; item_leaves = senders_removed xs i; work_falls = omega (arith, length-remove xs i l) }

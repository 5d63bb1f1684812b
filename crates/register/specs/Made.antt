-- What holds of every register that is made by `new` and the calls.
use Rattle.std.specs.Prelude.{◌≡◌, ℕ, ◌^◌, ◌<◌, Bool, true, false, ◌&&◌, ◌||◌, List, length, is_some, Some, Option, ◌==◌}
use Rattle.std.specs.List.{AllByRecursion, list_any}
use Rattle.cards.specs.Cards.{CardState, crashed_in, SoundCards}
use Rattle.tables.specs.Tables.{Shaped, ballot_in}
use Rattle.wire.specs.declared.Item.{Item}
use Rattle.register.specs.Held.{held_in}
use Rattle.register.specs.Register.{RegisterState}

-- An item under way: from a card, which has proposed in its instance.
pub record Underway (c : CardState) (proposals : List (List (Option ℕ))) (y : Item ℕ) : Type 0 where
  pub card : y.from < c.count
  pub proposed : is_some (ballot_in proposals y.load y.from) ≡ true

-- Whether an item is card p's in instance k.
abbrev pub brings : ℕ → ℕ → Item ℕ → Bool
brings k p y = y.load == k && y.from == p

pub record MadeRegister (x : RegisterState) : Type 0 where
  pub sound : SoundCards x.cards
  pub proposals_shaped : Shaped x.proposals
  pub decisions_shaped : Shaped x.decisions
  pub held_shaped : length x.held ≡ 32
  pub proposers : (k p : ℕ) → is_some (ballot_in x.proposals k p) ≡ true → p < x.cards.count
  pub proposed_sets : (k p s : ℕ) → ballot_in x.proposals k p ≡ Some s → (0 < s) × (s < 2 ^ 32)
  pub items : AllByRecursion (Underway x.cards x.proposals) x.wire
  -- a register holds some card's proposal; a decision is what the register holds, at a card that proposed
  pub held_proposed : (k s : ℕ) → held_in x.held k ≡ Some s → (q : ℕ) × (ballot_in x.proposals k q ≡ Some s)
  pub decided_proposed : (k p : ℕ) → is_some (ballot_in x.decisions k p) ≡ true → is_some (ballot_in x.proposals k p) ≡ true
  pub decided_held : (k p s : ℕ) → ballot_in x.decisions k p ≡ Some s → held_in x.held k ≡ Some s
  -- a running card that has proposed has decided, or its item is on its way
  pub due : (k p : ℕ) → crashed_in x.cards p ≡ false → is_some (ballot_in x.proposals k p) ≡ true → (is_some (ballot_in x.decisions k p) || list_any (brings k p) x.wire) ≡ true

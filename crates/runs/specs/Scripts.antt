-- What a script begins with.
use Rattle.std.specs.Prelude.{ℕ, Bool, List, length}
use Rattle.parts.specs.declared.broadcast.Broadcast.{Ghosts as Broadcasts}
use Rattle.parts.specs.declared.consensus.Consensus.{Ghosts as Consensuses}
use Rattle.logs.specs.Orders.{in_ranking_order}
use Rattle.total_order.specs.Carrying.{Carrying, fresh, cards_of}
use Rattle.runs.specs.declared.Script.{Script}

-- How many cards its carrier has.
abbrev pub cards_in : {K : Type 0} → Script K → ℕ
cards_in script = cards_of script.cards (length script.book.now)

-- The notes of its book in ranking order, where they stand before one another as told.
abbrev pub order_in : {K : Type 0} → (K → K → Bool) → Script K → List ℕ
order_in precedes script = in_ranking_order precedes script.book.now

module _ {X Y : Type 0} (b : Broadcasts X) (c : Consensuses Y) where
  -- A new carrier with so many cards and this book.
  abbrev pub new_carrier : {K : Type 0} → (K → K → Bool) → ℕ → List K → Carrying b c
  new_carrier precedes cards book = fresh b c (cards_of cards (length book)) (in_ranking_order precedes book)

  -- The new carrier of a script.
  abbrev pub begun : {K : Type 0} → (K → K → Bool) → Script K → Carrying b c
  begun precedes script = new_carrier precedes script.cards script.book.now

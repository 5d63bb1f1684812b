-- The wire: the items under way, in order; what joins its end, what is taken, and what a crash lets go.
use Rattle.std.specs.Prelude.{ℕ, zero, suc, Bool, cond, not, ◌&&◌, List, [], ◌∷◌, ◌++◌, map, length, filter, ◌==◌, nat_lt}
use Rattle.wire.specs.declared.Item.{Item}
use Rattle.cards.specs.Cards.{CardState, crashed_in}

-- `room`: for how many items there is room.
pub record WireState (P : Type 0) : Type 0 where
  pub items : List (Item P)
  pub room : ℕ

-- Nothing is sent to a crashed card, nor to the sender itself.
abbrev pub goes_to : CardState → ℕ → ℕ → Bool
goes_to c from to = not (crashed_in c to) && not (to == from)

module _ {P : Type 0} where
  -- A wire with other items.
  abbrev pub holding : WireState P → List (Item P) → WireState P
  holding w xs = record { items = xs; room = w.room }

  abbrev pub item : ℕ → ℕ → P → Item P
  item from to load = record { from = from; to = to; load = load }

  abbrev pub senders : List (Item P) → List ℕ
  senders xs = map (λ x. x.from) xs

  -- What finds no room does not join; the parts show that all find room.
  abbrev pub joined : ℕ → List (Item P) → Item P → List (Item P)
  joined room xs x = cond (nat_lt (length xs) room) (xs ++ x ∷ []) xs

  -- One item joins the end for each of the first k cards that it goes to, destinations ascending.
  abbrev pub sending : ℕ → CardState → ℕ → P → ℕ → List (Item P) → List (Item P)
  sending room c from load zero xs = xs
  sending room c from load (suc k) xs = cond (goes_to c from k) (joined room (sending room c from load k xs) (item from k load)) (sending room c from load k xs)

  -- The items themselves.
  abbrev pub sent : CardState → ℕ → P → ℕ → List (Item P)
  sent c from load zero = []
  sent c from load (suc k) = sent c from load k ++ cond (goes_to c from k) (item from k load ∷ []) []

  abbrev pub elsewhere : ℕ → Item P → Bool
  elsewhere p x = not (x.to == p)

  -- What is left when the items addressed to card p leave.
  abbrev pub without_to : ℕ → List (Item P) → List (Item P)
  without_to p xs = filter (elsewhere p) xs

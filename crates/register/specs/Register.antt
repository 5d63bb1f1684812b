-- The register: what its state holds, what is seen of it, and what each accepted call makes of it.
use Rattle.std.specs.Prelude.{ℕ, Bool, cond, List, [], ◌∷◌, ◌++◌, length, replicate, Some, None, Option}
use Rattle.std.specs.List.{slice_get, remove}
use Rattle.parts.specs.Views.{ConsensusView}
use Rattle.parts.specs.Deciding.{consensus_view}
use Rattle.cards.specs.Cards.{CardState, crashed_in, suspects_in, new_cards, with_crash, with_suspicion}
use Rattle.tables.specs.Tables.{new_ballots, ballot_in, with_ballot}
use Rattle.wire.specs.Wires.{senders, item}
use Rattle.wire.specs.declared.Item.{Item}
use Rattle.register.specs.Held.{held_in, filled}

-- An item's load is the instance in which its sender proposed.
pub record RegisterState : Type 0 where
  pub cards : CardState
  pub proposals : List (List (Option ℕ))
  pub decisions : List (List (Option ℕ))
  pub held : List (Option ℕ)
  pub wire : List (Item ℕ)

-- What is seen.

abbrev pub register_cards : RegisterState → ℕ
register_cards x = x.cards.count

abbrev pub register_crashed : RegisterState → ℕ → Bool
register_crashed x = crashed_in x.cards

abbrev pub register_suspects : RegisterState → ℕ → ℕ → Bool
register_suspects x = suspects_in x.cards

abbrev pub register_wire : RegisterState → List ℕ
register_wire x = senders x.wire

-- Each item is carried or lost once.
abbrev pub register_work : RegisterState → ℕ
register_work x = length x.wire

abbrev pub register_proposal : RegisterState → ℕ → ℕ → Option ℕ
register_proposal x = ballot_in x.proposals

abbrev pub register_decision : RegisterState → ℕ → ℕ → Option ℕ
register_decision x = ballot_in x.decisions

abbrev pub seen : RegisterState → ConsensusView
seen = consensus_view register_cards register_crashed register_suspects register_wire register_work register_proposal register_decision

-- What is made.

abbrev pub new_register : ℕ → RegisterState
new_register n = record { cards = new_cards n; proposals = new_ballots; decisions = new_ballots; held = replicate 32 None; wire = [] }

-- One item, from the card to the carrier.
abbrev pub propose_on : RegisterState → ℕ → ℕ → ℕ → RegisterState
propose_on x k p s = record { cards = x.cards; proposals = with_ballot x.proposals k p (Some s); decisions = x.decisions; held = x.held; wire = x.wire ++ item p 7 k ∷ [] }

-- The item's instance is filled with what its sender has proposed in it.
abbrev pub fill_by : RegisterState → Option (Item ℕ) → List (Option ℕ)
fill_by x None = x.held
fill_by x (Some y) = filled x.held y.load (ballot_in x.proposals y.load y.from)

-- The item's sender, if it runs, decides what the register then holds.
abbrev pub decide_by : RegisterState → Option (Item ℕ) → List (List (Option ℕ))
decide_by x None = x.decisions
decide_by x (Some y) = cond (crashed_in x.cards y.from) x.decisions (with_ballot x.decisions y.load y.from (held_in (fill_by x (Some y)) y.load))

abbrev pub carry_on : RegisterState → ℕ → RegisterState
carry_on x i = record { cards = x.cards; proposals = x.proposals; decisions = decide_by x (slice_get x.wire i); held = fill_by x (slice_get x.wire i); wire = remove x.wire i }

abbrev pub lose_on : RegisterState → ℕ → RegisterState
lose_on x i = record { cards = x.cards; proposals = x.proposals; decisions = x.decisions; held = x.held; wire = remove x.wire i }

-- Every item is addressed to the carrier, so none leaves.
abbrev pub crash_on : RegisterState → ℕ → RegisterState
crash_on x p = record { cards = with_crash x.cards p; proposals = x.proposals; decisions = x.decisions; held = x.held; wire = x.wire }

abbrev pub suspect_on : RegisterState → ℕ → ℕ → RegisterState
suspect_on x q p = record { cards = with_suspicion x.cards q p; proposals = x.proposals; decisions = x.decisions; held = x.held; wire = x.wire }

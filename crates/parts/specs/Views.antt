-- What a broadcast and a consensus show of themselves.
use Rattle.std.specs.Prelude.{◌≡◌, ℕ, ◌<◌, Bool, true, false, List, [], Option}

-- What both interfaces show. A card is a process, by its number below `cards`; it runs until it crashes.
-- `suspects q p`: card q takes card p for crashed. The wire is the list of the senders of the items under way,
-- each a card, or 7 for the carrier itself. `work` bounds the carries that are still to come.
pub record Net : Type 0 where
  pub cards : ℕ
  pub crashed : ℕ → Bool
  pub suspects : ℕ → ℕ → Bool
  pub wire : List ℕ
  pub work : ℕ

-- A broadcast shows also who posted each note, and the set of notes handed to each card.
pub record BroadcastView : Type 0 where
  pub net : Net
  pub poster : ℕ → Option ℕ
  pub handed : ℕ → ℕ

-- A consensus shows also what each card has proposed and decided in each instance: the instance first, then the card.
pub record ConsensusView : Type 0 where
  pub net : Net
  pub proposal : ℕ → ℕ → Option ℕ
  pub decision : ℕ → ℕ → Option ℕ

-- Card p runs.
pub record Runs (v : Net) (p : ℕ) : Type 0 where
  pub card : p < v.cards
  pub up : v.crashed p ≡ false

-- Every running card suspects every crashed one.
abbrev pub FullSuspicion : Net → Type 0
FullSuspicion v = (q p : ℕ) → Runs v q → p < v.cards → v.crashed p ≡ true → v.suspects q p ≡ true

-- Nothing is under way, and every running card suspects every crashed one.
pub record Quiet (v : Net) : Type 0 where
  pub empty : v.wire ≡ []
  pub known : FullSuspicion v

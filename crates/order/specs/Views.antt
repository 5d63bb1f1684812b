-- What the carrier shows beside the views of its broadcast and its consensus.
use Rattle.std.specs.Prelude.{◌≡◌, ℕ, ◌<◌, true, false, List, [], Some, None}
use Rattle.notes.specs.Sets.{total}
use Rattle.parts.specs.Views.{BroadcastView, ConsensusView, Runs}
use Rattle.order.specs.Words.{In, among, NoneTwice, one_if}

-- What the carrier itself keeps: for each card its log and the instance that it has come to, and the count of steps.
pub record Ledger : Type 0 where
  pub log : ℕ → List ℕ
  pub instance : ℕ → ℕ
  pub steps : ℕ

-- Some card has posted the note m.
abbrev pub IsPosted : BroadcastView → ℕ → Type 0
IsPosted v m = (p : ℕ) × (v.poster m ≡ Some p)

-- How many notes are posted.
unfoldable pub posts : BroadcastView → ℕ
posts v = total (λ m. one_if (v.poster m)) 32

-- `batch s` lists the notes of the set s that are below `book`, each once.
pub record Ranks (batch : ℕ → List ℕ) (book : ℕ) : Type 0 where
  pub members : (s m : ℕ) → among m (batch s) ≡ true → In s m
  pub covers : (s m : ℕ) → m < book → In s m → among m (batch s) ≡ true
  pub once : (s : ℕ) → NoneTwice (batch s)

-- At rest: both wires are empty, and no running card can propose or take. A card can propose where a note handed to it is
-- not in its log and it has not proposed in its instance, and take where its instance is decided for it.
pub record Rest (b : BroadcastView) (c : ConsensusView) (o : Ledger) : Type 0 where
  pub broadcast_empty : b.net.wire ≡ []
  pub consensus_empty : c.net.wire ≡ []
  pub no_proposal : (p m : ℕ) → Runs b.net p → In (b.handed p) m → among m (o.log p) ≡ false
      → (t : ℕ) × (c.proposal (o.instance p) p ≡ Some t)
  pub no_take : (p : ℕ) → Runs b.net p → c.decision (o.instance p) p ≡ None

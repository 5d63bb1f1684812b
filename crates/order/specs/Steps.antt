-- The calls on a carrier, as relations between what stood before and what stands after. What a call may change of the broadcast and
-- of the consensus is what the two interfaces mean by it; nothing more is known of them.
use Rattle.std.specs.Prelude.{◌≡◌, ℕ, suc, ◌+◌, ◌<◌, false, List, [], ◌++◌, Some, ◌≢◌, Ok}
use Rattle.parts.specs.Views.{BroadcastView, ConsensusView, Runs}
use Rattle.parts.specs.Refusals.{post_answer, propose_answer}
use Rattle.parts.specs.Broadcasting as broadcast
use Rattle.parts.specs.Deciding as consensus
use Rattle.order.specs.Words.{In, among}
use Rattle.order.specs.Views.{Ledger}

-- All notes of s wait at card p: they are handed to it and not in its log; and there is one.
pub record Waiting (b : BroadcastView) (o : Ledger) (p s : ℕ) : Type 0 where
  pub handed : (m : ℕ) → In s m → In (b.handed p) m
  pub fresh : (m : ℕ) → In s m → among m (o.log p) ≡ false
  pub some : (m : ℕ) × In s m

-- One step is counted, and the logs and instances stay.
pub record Counted (o o' : Ledger) : Type 0 where
  pub log : (p : ℕ) → o'.log p ≡ o.log p
  pub instance : (p : ℕ) → o'.instance p ≡ o.instance p
  pub steps : o'.steps ≡ o.steps + 1

-- Card p has appended the batch of s to its log and moved to the next instance; one step is counted.
pub record Taken (batch : ℕ → List ℕ) (o o' : Ledger) (p s : ℕ) : Type 0 where
  pub log : o'.log p ≡ o.log p ++ batch s
  pub instance : o'.instance p ≡ suc (o.instance p)
  pub logs : (q : ℕ) → (q ≢ p) → o'.log q ≡ o.log q
  pub instances : (q : ℕ) → (q ≢ p) → o'.instance q ≡ o.instance q
  pub steps : o'.steps ≡ o.steps + 1

-- One accepted call on a carrier with so many notes in its book. B and C are the bounds of broadcast and consensus.
pub data Step (B C book : ℕ) (batch : ℕ → List ℕ) (b : BroadcastView) (c : ConsensusView) (o : Ledger)
    : BroadcastView → ConsensusView → Ledger → Type 0 where
  post : {b' : BroadcastView} (p m : ℕ) → m < book → post_answer b p m ≡ Ok tt → broadcast.Posted B b b' p m → Step B C book batch b c o b' c o
  carry_broadcast : {b' : BroadcastView} {o' : Ledger} → broadcast.Carried b b' → Counted o o' → Step B C book batch b c o b' c o'
  carry_consensus : {c' : ConsensusView} {o' : Ledger} → consensus.Carried c c' → Counted o o' → Step B C book batch b c o b c' o'
  lose_broadcast : {b' : BroadcastView} {o' : Ledger} (i : ℕ) → broadcast.Lost b b' i → Counted o o' → Step B C book batch b c o b' c o'
  lose_consensus : {c' : ConsensusView} {o' : Ledger} (i : ℕ) → consensus.Lost c c' i → Counted o o' → Step B C book batch b c o b c' o'
  crash : {b' : BroadcastView} {c' : ConsensusView} (p : ℕ) → broadcast.Crashed b b' p → consensus.Crashed c c' p → Step B C book batch b c o b' c' o
  suspect : {b' : BroadcastView} {c' : ConsensusView} (q p : ℕ) → broadcast.Suspected b b' q p → consensus.Suspected c c' q p → Step B C book batch b c o b' c' o
  propose : {c' : ConsensusView} {o' : Ledger} (p s : ℕ) → Waiting b o p s → propose_answer c (o.instance p) p s ≡ Ok tt
      → consensus.Proposed C c c' (o.instance p) p s → Counted o o' → Step B C book batch b c o b c' o'
  take : {o' : Ledger} (p s : ℕ) → Runs b.net p → c.decision (o.instance p) p ≡ Some s → Taken batch o o' p s → Step B C book batch b c o b c o'

-- Any number of accepted calls; what is certain of a broadcast and a consensus is so wherever they come.
pub data Run (B C book : ℕ) (batch : ℕ → List ℕ) (b : BroadcastView) (c : ConsensusView) (o : Ledger)
    : BroadcastView → ConsensusView → Ledger → Type 0 where
  none : Run B C book batch b c o b c o
  then : {b' b'' : BroadcastView} {c' c'' : ConsensusView} {o' o'' : Ledger}
      → Run B C book batch b c o b' c' o' → broadcast.Lawful b' → consensus.Lawful c' → Step B C book batch b' c' o' b'' c'' o'' → Run B C book batch b c o b'' c'' o''

-- A new carrier with n cards.
pub record New (n : ℕ) (b : BroadcastView) (c : ConsensusView) (o : Ledger) : Type 0 where
  pub broadcast : broadcast.Started n b
  pub consensus : consensus.Started n c
  pub log : (p : ℕ) → o.log p ≡ []
  pub instance : (p : ℕ) → o.instance p ≡ 0
  pub steps : o.steps ≡ 0

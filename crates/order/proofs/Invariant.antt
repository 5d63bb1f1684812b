-- What every run keeps: each log is made of decisions, each proposal brings new notes, and each step is paid for.
use Rattle.std.proofs.Common.{◌≡◌, ℕ, suc, ◌+◌, ◌*◌, ◌<◌, ◌≤◌, false, List, [], ◌++◌, Some, Option}
use Rattle.notes.specs.Sets.{total}
use Rattle.parts.specs.Views.{BroadcastView, ConsensusView}
use Rattle.parts.specs.Nets.{SameCards}
use Rattle.order.specs.Words.{In, among, one_if}
use Rattle.order.specs.Views.{Ledger, IsPosted, posts}

-- The log of card p when it has taken its first k decisions.
pub data LogAfter (batch : ℕ → List ℕ) (decision : ℕ → ℕ → Option ℕ) (p : ℕ) : ℕ → List ℕ → Type 0 where
  at_first : LogAfter batch decision p 0 []
  one_more : {k : ℕ} {l : List ℕ} (s : ℕ) → LogAfter batch decision p k l → decision k p ≡ Some s → LogAfter batch decision p (suc k) (l ++ batch s)

-- The proposal s of card q in instance k is not empty, and its notes are handed to q and not among those taken before instance k.
pub record SoundProposal (batch : ℕ → List ℕ) (b : BroadcastView) (decision : ℕ → ℕ → Option ℕ) (k q s : ℕ) : Type 0 where
  pub log : List ℕ
  pub made : LogAfter batch decision q k log
  pub fresh : (m : ℕ) → In s m → among m log ≡ false
  pub handed : (m : ℕ) → In s m → In (b.handed q) m
  pub some : (m : ℕ) × In s m

-- What the steps of card p may have cost: C + 2 for each instance behind it, C + 1 for a proposal in the present one.
abbrev pub spent : ℕ → ConsensusView → (ℕ → ℕ) → ℕ → ℕ
spent C v instance p = instance p * (C + 2) + one_if (v.proposal (instance p) p) * (C + 1)

pub record Consistent (B C book : ℕ) (batch : ℕ → List ℕ) (b : BroadcastView) (c : ConsensusView) (o : Ledger) : Type 0 where
  pub net : SameCards b.net c.net
  pub in_book : (m : ℕ) → IsPosted b m → m < book
  pub outside : (p : ℕ) → b.net.cards ≤ p → o.instance p ≡ 0
  pub made : (p : ℕ) → LogAfter batch c.decision p (o.instance p) (o.log p)
  pub sound : (k q s : ℕ) → c.proposal k q ≡ Some s → SoundProposal batch b c.decision k q s
  pub paid : o.steps + b.net.work + c.net.work ≤ posts b * B + total (spent C c o.instance) b.net.cards

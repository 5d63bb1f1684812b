-- What it is to be a consensus.
use Rattle.std.specs.Prelude.{◌≡◌, ℕ, ◌+◌, ◌^◌, ◌<◌, ◌≤◌, Bool, true, cond, ◌&&◌, List, Ok, is_some, Some, None, Option, ◌==◌}
use Rattle.parts.specs.Views.{ConsensusView, Runs, Quiet}
use Rattle.parts.specs.Refusals.{propose_answer, carry_answer, lose_answer, crash_answer, suspect_answer}
use Rattle.parts.specs.Nets.{NewNet, SameCards, NetCarried, NetLost, NetCrashed, NetSuspected, LawfulNet}

-- What a state shows, by the members of the interface.
abbrev pub consensus_view : {S : Type 0} → (S → ℕ) → (S → ℕ → Bool) → (S → ℕ → ℕ → Bool) → (S → List ℕ) → (S → ℕ) → (S → ℕ → ℕ → Option ℕ) → (S → ℕ → ℕ → Option ℕ) → S → ConsensusView
consensus_view cards crashed suspects wire work proposal decision s =
    record { net = record { cards = cards s; crashed = crashed s; suspects = suspects s; wire = wire s; work = work s }; proposal = proposal s; decision = decision s }

-- A new consensus.
pub record Started (n : ℕ) (v : ConsensusView) : Type 0 where
  pub net : NewNet n v.net
  pub nothing_proposed : (k p : ℕ) → v.proposal k p ≡ None
  pub nothing_decided : (k p : ℕ) → v.decision k p ≡ None

-- Running cards may decide; no decision is changed or removed.
pub record DecidedMore (v w : ConsensusView) : Type 0 where
  pub decisions_stand : (k p s : ℕ) → v.decision k p ≡ Some s → w.decision k p ≡ Some s
  pub crashed_decide_nothing : (k p : ℕ) → v.net.crashed p ≡ true → w.decision k p ≡ v.decision k p

-- An accepted proposal of the set s by card p in instance k.
pub record Proposed (bound : ℕ) (v w : ConsensusView) (k p s : ℕ) : Type 0 where
  pub same_cards : SameCards v.net w.net
  pub work_rises_by_bound : w.net.work ≤ v.net.work + bound
  pub proposal_stands : (j q : ℕ) → w.proposal j q ≡ cond (j == k && q == p) (Some s) (v.proposal j q)
  pub decided_more : DecidedMore v w

-- An accepted carry.
pub record Carried (v w : ConsensusView) : Type 0 where
  pub net : NetCarried v.net w.net
  pub proposals_stay : (k p : ℕ) → w.proposal k p ≡ v.proposal k p
  pub decided_more : DecidedMore v w

-- An accepted loss of item i.
pub record Lost (v w : ConsensusView) (i : ℕ) : Type 0 where
  pub net : NetLost v.net w.net i
  pub proposals_stay : (k p : ℕ) → w.proposal k p ≡ v.proposal k p
  pub decisions_stay : (k p : ℕ) → w.decision k p ≡ v.decision k p

-- An accepted crash of card p.
pub record Crashed (v w : ConsensusView) (p : ℕ) : Type 0 where
  pub net : NetCrashed v.net w.net p
  pub proposals_stay : (k q : ℕ) → w.proposal k q ≡ v.proposal k q
  pub decisions_stay : (k q : ℕ) → w.decision k q ≡ v.decision k q

-- An accepted suspicion: card q suspects card p.
pub record Suspected (v w : ConsensusView) (q p : ℕ) : Type 0 where
  pub net : NetSuspected v.net w.net q p
  pub proposals_stay : (k r : ℕ) → w.proposal k r ≡ v.proposal k r
  pub decided_more : DecidedMore v w

-- What is certain of every state that `new` and the calls make.
pub record Lawful (v : ConsensusView) : Type 0 where
  pub net : LawfulNet v.net
  pub instances_below_32 : (k p : ℕ) → is_some (v.proposal k p) ≡ true → k < 32
  pub proposers_are_cards : (k p : ℕ) → is_some (v.proposal k p) ≡ true → p < v.net.cards
  pub proposals_not_empty : (k p s : ℕ) → v.proposal k p ≡ Some s → 0 < s
  pub proposals_fit_32_bits : (k p s : ℕ) → v.proposal k p ≡ Some s → s < 2 ^ 32
  -- a decision stands only at a card that proposed, is some card's proposal, and is the same everywhere
  pub decided_have_proposed : (k p : ℕ) → is_some (v.decision k p) ≡ true → is_some (v.proposal k p) ≡ true
  pub decisions_were_proposed : (k p s : ℕ) → v.decision k p ≡ Some s → (q : ℕ) × (v.proposal k q ≡ Some s)
  pub decisions_equal : (k p q s t : ℕ) → v.decision k p ≡ Some s → v.decision k q ≡ Some t → s ≡ t
  -- the rest law
  pub quiet_all_decided : Quiet v.net → (k : ℕ) → ((p : ℕ) → Runs v.net p → is_some (v.proposal k p) ≡ true)
      → (p : ℕ) → Runs v.net p → is_some (v.decision k p) ≡ true

-- The meaning of a consensus: what its calls make of a state is named by the members of the interface, and known by what stands here.
-- `made` holds of what `new` makes, and each call keeps it. A set of notes is a number below 2 ^ 32.
pub record Meaning {S : Type 0} (view : S → ConsensusView) (made : S → Type 0) (bound : ℕ) (start : ℕ → S) (proposing : S → ℕ → ℕ → ℕ → S)
    (carrying losing crashing : S → ℕ → S) (suspecting : S → ℕ → ℕ → S) : Type 0 where
  pub bound_fits_32_bits : bound < 2 ^ 32
  pub new_made : (n : ℕ) → made (start n)
  pub new_means : (n : ℕ) → Started n (view (start n))
  pub propose_made : (x : S) (k p s : ℕ) → made x → s < 2 ^ 32 → propose_answer (view x) k p s ≡ Ok tt → made (proposing x k p s)
  pub propose_means : (x : S) (k p s : ℕ) → made x → s < 2 ^ 32 → propose_answer (view x) k p s ≡ Ok tt → Proposed bound (view x) (view (proposing x k p s)) k p s
  pub carry_made : (x : S) (i : ℕ) → made x → carry_answer (view x).net i ≡ Ok tt → made (carrying x i)
  pub carry_means : (x : S) (i : ℕ) → made x → carry_answer (view x).net i ≡ Ok tt → Carried (view x) (view (carrying x i))
  pub lose_made : (x : S) (i : ℕ) → made x → lose_answer (view x).net i ≡ Ok tt → made (losing x i)
  pub lose_means : (x : S) (i : ℕ) → made x → lose_answer (view x).net i ≡ Ok tt → Lost (view x) (view (losing x i)) i
  pub crash_made : (x : S) (p : ℕ) → made x → crash_answer (view x).net p ≡ Ok tt → made (crashing x p)
  pub crash_means : (x : S) (p : ℕ) → made x → crash_answer (view x).net p ≡ Ok tt → Crashed (view x) (view (crashing x p)) p
  pub suspect_made : (x : S) (q p : ℕ) → made x → suspect_answer (view x).net q p ≡ Ok tt → made (suspecting x q p)
  pub suspect_means : (x : S) (q p : ℕ) → made x → suspect_answer (view x).net q p ≡ Ok tt → Suspected (view x) (view (suspecting x q p)) q p
  pub lawful : (x : S) → made x → Lawful (view x)

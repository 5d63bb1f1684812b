-- The law of the order, over every run of a new carrier.
use Rattle.std.specs.Prelude.{◌≡◌, ℕ, ◌≤◌, true, ◌⊎◌, List, [], Some}
use Rattle.parts.specs.Views.{BroadcastView, ConsensusView, Runs, FullSuspicion}
use Rattle.parts.specs.Broadcasting.{UniformAgreement}
use Rattle.parts.specs.Broadcasting as broadcast
use Rattle.parts.specs.Deciding as consensus
use Rattle.order.specs.Words.{among, NoneTwice, Begins, step_bound}
use Rattle.order.specs.Views.{Ledger, IsPosted, posts, Ranks, Rest}
use Rattle.order.specs.Steps.{New, Run}

-- One order of notes for every card. B and C are the bounds of broadcast and consensus.
pub record OneOrder (B C : ℕ) (b : BroadcastView) (c : ConsensusView) (o : Ledger) : Type 0 where
  pub one_log_begins_the_other : (p q : ℕ) → Begins (o.log p) (o.log q) ⊎ Begins (o.log q) (o.log p)
  pub no_note_twice : (p : ℕ) → NoneTwice (o.log p)
  pub only_posted_notes : (p m : ℕ) → among m (o.log p) ≡ true → IsPosted b m
  pub no_log_outside : (p : ℕ) → b.net.cards ≤ p → o.log p ≡ []
  pub running_logs_agree_at_rest : Rest b c o → FullSuspicion b.net → (p q : ℕ) → Runs b.net p → Runs b.net q → o.log p ≡ o.log q
  pub running_posts_logged_at_rest : Rest b c o → FullSuspicion b.net → (p q m : ℕ) → Runs b.net p → Runs b.net q
      → b.poster m ≡ Some p → among m (o.log q) ≡ true
  pub crashed_logs_begin_running_ones : Rest b c o → FullSuspicion b.net → UniformAgreement b → (p q : ℕ) → Runs b.net q → Begins (o.log p) (o.log q)
  pub steps_within_bound : o.steps ≤ step_bound (posts b) b.net.cards B C

-- Whatever the broadcast and the consensus, if what they show is lawful and changes as their interfaces mean it.
abbrev pub OrderLaw : Type 0
OrderLaw = (B C book n : ℕ) (batch : ℕ → List ℕ) (b b' : BroadcastView) (c c' : ConsensusView) (o o' : Ledger)
    → Ranks batch book → New n b c o → Run B C book batch b c o b' c' o' → broadcast.Lawful b' → consensus.Lawful c' → OneOrder B C b' c' o'

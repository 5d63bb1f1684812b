-- The law of the order, over every list of calls on a new carrier.
use Rattle.std.specs.Prelude.{◌≡◌, ℕ, ◌+◌, ◌<◌, ◌≤◌, Bool, true, false, ◌⊎◌, List, [], length, Some, count_ones}
use Rattle.notes.specs.Sets.{has}
use Rattle.parts.specs.Views.{Quiet}
use Rattle.parts.specs.Broadcasting.{UniformAgreement}
use Rattle.parts.specs.Nets.{SameCards}
use Rattle.parts.specs.Shown.{shown, told}
use Rattle.parts.specs.declared.broadcast.Broadcast.{Ghosts as Broadcasts}
use Rattle.parts.specs.declared.consensus.Consensus.{Ghosts as Consensuses}
use Rattle.order.specs.Words.{among, NoneTwice, Begins, step_bound}
use Rattle.logs.specs.Orders.{in_ranking_order}
use Rattle.total_order.specs.Carrying.{Carrying, fresh, cards_of, log_at, instance_at, decision_at, waiting, at_rest, settled}
use Rattle.total_order.specs.declared.call.Call.{Call}
use Rattle.runs.specs.Scripts.{new_carrier}
use Rattle.runs.specs.Runs.{left_by, answers_to}
use Rattle.runs.specs.Tally.{Tally, tally}

-- Card p is one of n, and no accepted call made it crash.
pub record Running (n : ℕ) (t : Tally) (p : ℕ) : Type 0 where
  pub card : p < n
  pub up : t.crashed p ≡ false

-- Every running card suspects every crashed one.
abbrev pub AllCrashesSuspected : ℕ → Tally → Type 0
AllCrashesSuspected n t = (q p : ℕ) → Running n t q → p < n → t.crashed p ≡ true → t.suspects q p ≡ true

-- The definition of a carrier guards against states that no run comes to: a count that is full, a log without room for a batch, a broadcast and
-- a consensus that go by different cards, an instance above 31. None of these guards bites.
pub record NoGuardBites {X Y : Type 0} (b : Broadcasts X) (c : Consensuses Y) (s : Carrying b c) : Type 0 where
  pub few_cards : b.cards s.broadcast ≤ 6
  pub same_cards : SameCards (shown b s.broadcast).net (told c s.consensus).net
  pub count_not_full : s.steps < 18446744073709551615
  pub instances_not_full : (p : ℕ) → instance_at b c s p ≤ 32
  pub instance_for_waiting_notes : (p m : ℕ) → has (waiting b c s p) m ≡ true → instance_at b c s p < 32
  pub room_for_decision : (p d : ℕ) → decision_at b c s p ≡ Some d → length (log_at b c s p) + count_ones d ≤ 32

-- Over a uniform broadcast: a crashed card's log, too, begins that of each running card.
abbrev pub CrashedLogsBeginRunningOnes : {X Y : Type 0} (b : Broadcasts X) (c : Consensuses Y) (n : ℕ) (t : Tally) (s : Carrying b c) → Type 0
CrashedLogsBeginRunningOnes b c n t s = at_rest b c s ≡ true → AllCrashesSuspected n t → (p q : ℕ) → Running n t q → Begins (log_at b c s p) (log_at b c s q)

-- What holds of a carrier with n cards, by what the accepted calls tell.
pub record OneOrder {X Y : Type 0} (b : Broadcasts X) (c : Consensuses Y) (n : ℕ) (t : Tally) (s : Carrying b c) : Type 0 where
  pub one_log_begins_the_other : (p q : ℕ) → Begins (log_at b c s p) (log_at b c s q) ⊎ Begins (log_at b c s q) (log_at b c s p)
  pub no_note_twice : (p : ℕ) → NoneTwice (log_at b c s p)
  pub only_posted_notes : (p m : ℕ) → among m (log_at b c s p) ≡ true → (q : ℕ) × (t.poster m ≡ Some q)
  pub no_log_outside : (p : ℕ) → n ≤ p → log_at b c s p ≡ []
  pub running_logs_agree_at_rest : at_rest b c s ≡ true → AllCrashesSuspected n t → (p q : ℕ) → Running n t p → Running n t q → log_at b c s p ≡ log_at b c s q
  pub running_posts_logged_at_rest : at_rest b c s ≡ true → AllCrashesSuspected n t → (p q m : ℕ) → Running n t p → Running n t q
      → t.poster m ≡ Some p → among m (log_at b c s q) ≡ true
  pub steps_within_bound : s.steps ≤ step_bound t.posts n b.bound c.bound
  pub steps_are_accepted_steps : s.steps ≡ t.steps
  -- A settle whose limit is at least the bound less the steps made so far ends at rest.
  pub large_settle_rests : (limit : ℕ) → step_bound t.posts n b.bound c.bound ≤ s.steps + limit → at_rest b c (settled b c limit s) ≡ true
  pub no_guard_bites : NoGuardBites b c s
  -- Rest under full suspicion is quiet for the broadcast; and where what it has handed agrees uniformly, crashed logs begin running ones.
  pub broadcast_quiet_at_rest : at_rest b c s ≡ true → AllCrashesSuspected n t → Quiet (shown b s.broadcast).net
  pub crashed_logs_where_agreed : UniformAgreement (shown b s.broadcast) → CrashedLogsBeginRunningOnes b c n t s

-- Both parts are such as `new` and their calls make, so that all that their interfaces say of those holds whatever is called next.
pub record PartsMade {X Y : Type 0} (b : Broadcasts X) (c : Consensuses Y) (s : Carrying b c) : Type 0 where
  pub broadcast : b.made s.broadcast
  pub consensus : c.made s.consensus

-- Whatever is called on the carrier s, which has n cards, the one order holds of what the calls leave, by what they tell.
pub record StaysInOrder {X Y : Type 0} (b : Broadcasts X) (c : Consensuses Y) (n : ℕ) (s : Carrying b c) : Type 0 where
  pub order : (calls : List Call) → OneOrder b c n (tally calls (answers_to b c s calls)) (left_by b c s calls)
  pub made : (calls : List Call) → PartsMade b c (left_by b c s calls)

-- What a uniform broadcast says in its yes, of each state that its calls make.
abbrev pub AgreesWhereQuiet : {X : Type 0} → Broadcasts X → Type 0
AgreesWhereQuiet b = (x : b.State) → b.made x → Quiet (shown b x).net → UniformAgreement (shown b x)

module _ {X Y K : Type 0} (b : Broadcasts X) (c : Consensuses Y) (precedes : K → K → Bool) where
  -- A new carrier with at most six cards, and whatever book, stays in order.
  abbrev pub NewStaysInOrder : Type 0
  NewStaysInOrder = (n : ℕ) (book : List K) → n ≤ 6 → StaysInOrder b c n (fresh b c n (in_ranking_order precedes book))

  -- The order law of every run: whatever number of cards is asked for, whatever the book and the calls.
  abbrev pub OneOrderOfEveryRun : Type 0
  OneOrderOfEveryRun =
      (cards : ℕ) (book : List K) → StaysInOrder b c (cards_of cards (length book)) (new_carrier b c precedes cards book)

  -- Over a uniform broadcast crashed logs begin running ones in every run.
  abbrev pub CrashedLogsOfEveryRun : Type 0
  CrashedLogsOfEveryRun =
      AgreesWhereQuiet b → (cards : ℕ) (book : List K) (calls : List Call)
      → CrashedLogsBeginRunningOnes b c (cards_of cards (length book))
      (tally calls (answers_to b c (new_carrier b c precedes cards book) calls))
      (left_by b c (new_carrier b c precedes cards book) calls)

-- The carrier over any broadcast and any consensus: what each call answers and makes.
use Rattle.std.specs.Prelude.{ℕ, zero, suc, ◌+◌, Bool, cond, not, ◌&&◌, List, [], length, replicate, Ok, Err, Result, is_ok, is_some, Some, None, Option, ◌==◌, nat_le, nat_lt, slice_index, slice_index_or, slice_set}
use Rattle.std.specs.List.{find, range_with_len}
use Rattle.notes.specs.Sets.{minus}
use Rattle.parts.specs.declared.refusal.Refusal.{Refusal}
use Rattle.parts.specs.declared.refusal.Refusal.TheVariants.{NoSuchCard, CardCrashed, NoSuchNote, NothingDecided}
use Rattle.parts.specs.Refusals.{post_answer, carry_answer, lose_answer, crash_answer, suspect_answer, propose_answer, acting_answer}
use Rattle.parts.specs.Shown.{shown, told}
use Rattle.parts.specs.declared.broadcast.Broadcast.{Ghosts as Broadcasts}
use Rattle.parts.specs.declared.consensus.Consensus.{Ghosts as Consensuses}
use Rattle.logs.specs.Orders.{number_in, appended, with_all}
use Rattle.parts.specs.declared.wires.Wire.{Wire}
use Rattle.parts.specs.declared.wires.Wire.TheVariants.{Broadcast, Consensus}

-- A broadcast, a consensus, the notes of the book in ranking order, for each of six cards a log and the instance that it has come to,
-- and the count of steps since it was new.
pub record Carrying {X Y : Type 0} (b : Broadcasts X) (c : Consensuses Y) : Type 0 where
  pub broadcast : b.State
  pub consensus : c.State
  pub order : List ℕ
  pub logs : List (List ℕ)
  pub instances : List ℕ
  pub steps : ℕ

-- What a call answers, and the carrier that it leaves.
pub record Reply {X Y : Type 0} (b : Broadcasts X) (c : Consensuses Y) : Type 0 where
  pub answer : Result Unit Refusal
  pub next : Carrying b c

-- One more. A count stops at the highest number of 64 bits; no run comes to it.
abbrev pub one_more : ℕ → ℕ
one_more n = cond (nat_lt n 18446744073709551615) (n + 1) n

-- The cards that a carrier has: none where the number is above 6 or the book above 32 notes.
abbrev pub cards_of : ℕ → ℕ → ℕ
cards_of cards notes = cond (nat_le notes 32 && nat_le cards 6) cards 0

module _ {X Y : Type 0} (b : Broadcasts X) (c : Consensuses Y) where
  -- A new carrier: the number of cards, and the notes of the book in ranking order.
  abbrev pub with_parts : b.State → c.State → List ℕ → Carrying b c
  with_parts x y order = record { broadcast = x; consensus = y; order = order; logs = replicate 6 []; instances = replicate 6 0; steps = 0 }

  abbrev pub fresh : ℕ → List ℕ → Carrying b c
  fresh cards order = with_parts (b.start cards) (c.start cards) order

  -- What an accepted call leaves, and what a refused one.
  abbrev pub if_accepted : {A : Type 0} → Result Unit Refusal → A → A → A
  if_accepted answer after before = cond (is_ok answer) after before

  -- A carrier with another broadcast, another consensus and another count of steps.
  abbrev pub moved : Carrying b c → b.State → c.State → ℕ → Carrying b c
  moved s x y steps = record { broadcast = x; consensus = y; order = s.order; logs = s.logs; instances = s.instances; steps = steps }

  -- An accepted step is counted.
  abbrev pub counted : Carrying b c → Result Unit Refusal → ℕ
  counted s answer = if_accepted answer (one_more s.steps) s.steps

  -- The senders of the items of a wire.
  abbrev pub wire_on : Carrying b c → Wire → List ℕ
  wire_on s Broadcast = b.wire s.broadcast
  wire_on s Consensus = c.wire s.consensus

  -- How many cards have a log: in a run, all.
  abbrev pub card_count : Carrying b c → ℕ
  card_count s = cond (nat_lt (b.cards s.broadcast) 6) (b.cards s.broadcast) 6

  abbrev pub log_at : Carrying b c → ℕ → List ℕ
  log_at s p = slice_index_or s.logs p []

  abbrev pub instance_at : Carrying b c → ℕ → ℕ
  instance_at s p = slice_index s.instances p

  -- What the card p has decided in its instance.
  abbrev pub decision_at : Carrying b c → ℕ → Option ℕ
  decision_at s p = c.decision s.consensus (instance_at s p) p

  -- The waiting notes of a card: those handed to it that are not in its log.
  unfoldable pub waiting : Carrying b c → ℕ → ℕ
  waiting s p = minus (b.handed s.broadcast p) (with_all 0 (log_at s p))

  -- Post: the note has to be in the book; else it goes as the broadcast has it.
  abbrev pub post_reply : Carrying b c → ℕ → ℕ → Result Unit Refusal
  post_reply s p m = cond (nat_lt m (length s.order)) (post_answer (shown b s.broadcast) p m) (acting_answer (shown b s.broadcast).net p (Err NoSuchNote))

  abbrev pub posting : Carrying b c → ℕ → ℕ → Reply b c
  posting s p m = record {
    answer = post_reply s p m;
    next = moved s (if_accepted (post_reply s p m) (b.posting s.broadcast p m) s.broadcast) s.consensus s.steps;
  }

  -- Carry and lose, on either wire: a step.
  abbrev pub carrying : Carrying b c → Wire → ℕ → Reply b c
  carrying s Broadcast i =
      let answer = carry_answer (shown b s.broadcast).net i in
      record { answer = answer; next = moved s (if_accepted answer (b.carrying s.broadcast i) s.broadcast) s.consensus (counted s answer) }
  carrying s Consensus i =
      let answer = carry_answer (told c s.consensus).net i in
      record { answer = answer; next = moved s s.broadcast (if_accepted answer (c.carrying s.consensus i) s.consensus) (counted s answer) }

  abbrev pub losing : Carrying b c → Wire → ℕ → Reply b c
  losing s Broadcast i =
      let answer = lose_answer (shown b s.broadcast).net i in
      record { answer = answer; next = moved s (if_accepted answer (b.losing s.broadcast i) s.broadcast) s.consensus (counted s answer) }
  losing s Consensus i =
      let answer = lose_answer (told c s.consensus).net i in
      record { answer = answer; next = moved s s.broadcast (if_accepted answer (c.losing s.consensus i) s.consensus) (counted s answer) }

  -- Crash and suspect go to both: what the broadcast accepts is told to the consensus. In a run that accepts it too.
  abbrev pub crashing : Carrying b c → ℕ → Reply b c
  crashing s p =
      let answer = crash_answer (shown b s.broadcast).net p in
      let second = crash_answer (told c s.consensus).net p in
      record {
        answer = answer;
        next = moved s (if_accepted answer (b.crashing s.broadcast p) s.broadcast)
            (if_accepted answer (if_accepted second (c.crashing s.consensus p) s.consensus) s.consensus) s.steps;
      }

  abbrev pub suspecting : Carrying b c → ℕ → ℕ → Reply b c
  suspecting s q p =
      let answer = suspect_answer (shown b s.broadcast).net q p in
      let second = suspect_answer (told c s.consensus).net q p in
      record {
        answer = answer;
        next = moved s (if_accepted answer (b.suspecting s.broadcast q p) s.broadcast)
            (if_accepted answer (if_accepted second (c.suspecting s.consensus q p) s.consensus) s.consensus) s.steps;
      }

  -- Propose puts the waiting notes forward in the card's instance, and goes as the consensus has it: a step.
  abbrev pub propose_reply : Carrying b c → ℕ → Result Unit Refusal
  propose_reply s p = cond (nat_lt p (card_count s)) (propose_answer (told c s.consensus) (instance_at s p) p (waiting s p)) (Err NoSuchCard)

  abbrev pub proposing : Carrying b c → ℕ → Reply b c
  proposing s p = record {
    answer = propose_reply s p;
    next = moved s s.broadcast (if_accepted (propose_reply s p) (c.proposing s.consensus (instance_at s p) p (waiting s p)) s.consensus) (counted s (propose_reply s p));
  }

  -- Take appends the decision of the card's instance to its log, in ranking order, and moves the card to the next instance: a step.
  abbrev pub take_reply : Carrying b c → ℕ → Result Unit Refusal
  take_reply s p = cond (nat_lt p (card_count s)) (cond (b.crashed s.broadcast p) (Err CardCrashed) (cond (is_some (decision_at s p)) (Ok tt) (Err NothingDecided))) (Err NoSuchCard)

  abbrev pub taking : Carrying b c → ℕ → Reply b c
  taking s p = record {
    answer = take_reply s p;
    next = record {
      broadcast = s.broadcast;
      consensus = s.consensus;
      order = s.order;
      logs = if_accepted (take_reply s p) (slice_set s.logs p (appended s.order (log_at s p) (number_in (decision_at s p)))) s.logs;
      instances = if_accepted (take_reply s p) (slice_set s.instances p (one_more (instance_at s p))) s.instances;
      steps = counted s (take_reply s p);
    };
  }

  -- Whether take, and propose, would be accepted.
  abbrev pub can_take : Carrying b c → ℕ → Bool
  can_take s p = is_ok (take_reply s p)

  abbrev pub can_propose : Carrying b c → ℕ → Bool
  can_propose s p = is_ok (propose_reply s p)

  -- The lowest card that can take, and that can propose.
  unfoldable pub taker : Carrying b c → Option ℕ
  taker s = find (can_take s) (range_with_len 0 (card_count s))

  unfoldable pub proposer : Carrying b c → Option ℕ
  proposer s = find (can_propose s) (range_with_len 0 (card_count s))

  -- At rest: both wires are empty, and at no card would take or propose be accepted.
  unfoldable pub at_rest : Carrying b c → Bool
  at_rest s = (length (b.wire s.broadcast) == 0 && length (c.wire s.consensus) == 0) && (not (is_some (taker s)) && not (is_some (proposer s)))

  -- The first possible of: carry item 0 of the broadcast, carry item 0 of the consensus, take at the lowest card that can, propose at the lowest card that can.
  abbrev pub take_or_propose : Carrying b c → Option ℕ → Option ℕ → Carrying b c
  take_or_propose s (Some p) other = (taking s p).next
  take_or_propose s None (Some q) = (proposing s q).next
  take_or_propose s None None = s

  unfoldable pub advanced : Carrying b c → Carrying b c
  advanced s = cond (nat_lt 0 (length (b.wire s.broadcast))) (carrying s Broadcast 0).next
      (cond (nat_lt 0 (length (c.wire s.consensus))) (carrying s Consensus 0).next (take_or_propose s (taker s) (proposer s)))

  -- After so many steps, each the first possible.
  abbrev pub after_steps : ℕ → Carrying b c → Carrying b c
  after_steps zero s = s
  after_steps (suc k) s = advanced (after_steps k s)

  -- Settle: step by step until it is at rest or has made as many steps as the limit says. What it leaves, and how many steps it made.
  unfoldable pub settled : ℕ → Carrying b c → Carrying b c
  settled zero s = s
  settled (suc n) s = cond (at_rest s) s (settled n (advanced s))

  unfoldable pub settle_steps : ℕ → Carrying b c → ℕ
  settle_steps zero s = 0
  settle_steps (suc n) s = cond (at_rest s) 0 (suc (settle_steps n (advanced s)))

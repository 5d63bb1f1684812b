-- The number of each refusal, and what each call answers: `Ok tt` where it is accepted, and otherwise the refusal.
use Rattle.std.specs.Prelude.{ℕ, cond, ◌&&◌, length, is_some, Ok, Err, Result, nat_lt, slice_index_or}
use Rattle.parts.specs.declared.refusal.Refusal.{Refusal}
use Rattle.parts.specs.declared.refusal.Refusal.TheVariants.{NoSuchCard, CardCrashed, NoSuchNote, AlreadyPosted, CardRuns, NoSuchItem, SenderNotCrashed, AlreadyProposed, NothingToPropose, NothingDecided}
use Rattle.parts.specs.Views.{Net, BroadcastView, ConsensusView}

abbrev pub number : Refusal → ℕ
number NoSuchCard = 1
number CardCrashed = 2
number NoSuchNote = 3
number AlreadyPosted = 4
number CardRuns = 5
number NoSuchItem = 6
number SenderNotCrashed = 7
number AlreadyProposed = 8
number NothingToPropose = 9
number NothingDecided = 10

-- A card that is to act is one of the cards, and runs; what else there is to ask is asked of such a card only.
abbrev pub acting_answer : Net → ℕ → Result Unit Refusal → Result Unit Refusal
acting_answer v p others = cond (nat_lt p v.cards) (cond (v.crashed p) (Err CardCrashed) others) (Err NoSuchCard)

-- Card p posts note m.
abbrev pub post_answer : BroadcastView → ℕ → ℕ → Result Unit Refusal
post_answer v p m = acting_answer v.net p (cond (nat_lt m 32) (cond (is_some (v.poster m)) (Err AlreadyPosted) (Ok tt)) (Err NoSuchNote))

-- Item i is carried.
abbrev pub carry_answer : Net → ℕ → Result Unit Refusal
carry_answer v i = cond (nat_lt i (length v.wire)) (Ok tt) (Err NoSuchItem)

-- Item i is lost.
abbrev pub lose_answer : Net → ℕ → Result Unit Refusal
lose_answer v i = cond (nat_lt i (length v.wire)) (cond (v.crashed (slice_index_or v.wire i 7)) (Ok tt) (Err SenderNotCrashed)) (Err NoSuchItem)

-- Card p crashes.
abbrev pub crash_answer : Net → ℕ → Result Unit Refusal
crash_answer v p = acting_answer v p (Ok tt)

-- Card q suspects card p.
abbrev pub suspect_answer : Net → ℕ → ℕ → Result Unit Refusal
suspect_answer v q p =
    cond (nat_lt q v.cards && nat_lt p v.cards) (cond (v.crashed q) (Err CardCrashed) (cond (v.crashed p) (Ok tt) (Err CardRuns))) (Err NoSuchCard)

-- Card p proposes the set s in instance k.
abbrev pub propose_answer : ConsensusView → ℕ → ℕ → ℕ → Result Unit Refusal
propose_answer v k p s =
    acting_answer v.net p (cond (is_some (v.proposal k p)) (Err AlreadyProposed) (cond (nat_lt k 32 && nat_lt 0 s) (Ok tt) (Err NothingToPropose)))

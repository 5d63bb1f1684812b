-- What it is to be a broadcast.
use Rattle.std.specs.Prelude.{◌≡◌, ℕ, ◌+◌, ◌^◌, ◌<◌, ◌≤◌, Bool, true, cond, List, Ok, is_some, Some, None, Option, ◌==◌}
use Rattle.notes.specs.Sets.{has}
use Rattle.parts.specs.Views.{BroadcastView, Runs, Quiet}
use Rattle.parts.specs.Refusals.{post_answer, carry_answer, lose_answer, crash_answer, suspect_answer}
use Rattle.parts.specs.Nets.{NewNet, SameCards, NetCarried, NetLost, NetCrashed, NetSuspected, LawfulNet}

-- What a state shows, by the members of the interface.
abbrev pub broadcast_view : {S : Type 0} → (S → ℕ) → (S → ℕ → Bool) → (S → ℕ → ℕ → Bool) → (S → List ℕ) → (S → ℕ) → (S → ℕ → Option ℕ) → (S → ℕ → ℕ) → S → BroadcastView
broadcast_view cards crashed suspects wire work poster handed s =
    record { net = record { cards = cards s; crashed = crashed s; suspects = suspects s; wire = wire s; work = work s }; poster = poster s; handed = handed s }

-- A new broadcast.
pub record Started (n : ℕ) (v : BroadcastView) : Type 0 where
  pub net : NewNet n v.net
  pub nothing_posted : (m : ℕ) → v.poster m ≡ None
  pub nothing_handed : (p : ℕ) → v.handed p ≡ 0

-- Notes may be handed to running cards; nothing is ever taken out of a set.
pub record HandedMore (v w : BroadcastView) : Type 0 where
  pub nothing_taken_out : (p m : ℕ) → has (v.handed p) m ≡ true → has (w.handed p) m ≡ true
  pub crashed_sets_stay : (p : ℕ) → v.net.crashed p ≡ true → w.handed p ≡ v.handed p

-- An accepted post of note m by card p.
pub record Posted (bound : ℕ) (v w : BroadcastView) (p m : ℕ) : Type 0 where
  pub same_cards : SameCards v.net w.net
  pub work_rises_by_bound : w.net.work ≤ v.net.work + bound
  pub post_stands : (j : ℕ) → w.poster j ≡ cond (j == m) (Some p) (v.poster j)
  pub handed_more : HandedMore v w

-- An accepted carry.
pub record Carried (v w : BroadcastView) : Type 0 where
  pub net : NetCarried v.net w.net
  pub posters_stay : (j : ℕ) → w.poster j ≡ v.poster j
  pub handed_more : HandedMore v w

-- An accepted loss of item i.
pub record Lost (v w : BroadcastView) (i : ℕ) : Type 0 where
  pub net : NetLost v.net w.net i
  pub posters_stay : (j : ℕ) → w.poster j ≡ v.poster j
  pub sets_stay : (p : ℕ) → w.handed p ≡ v.handed p

-- An accepted crash of card p.
pub record Crashed (v w : BroadcastView) (p : ℕ) : Type 0 where
  pub net : NetCrashed v.net w.net p
  pub posters_stay : (j : ℕ) → w.poster j ≡ v.poster j
  pub sets_stay : (q : ℕ) → w.handed q ≡ v.handed q

-- An accepted suspicion: card q suspects card p.
pub record Suspected (v w : BroadcastView) (q p : ℕ) : Type 0 where
  pub net : NetSuspected v.net w.net q p
  pub posters_stay : (j : ℕ) → w.poster j ≡ v.poster j
  pub handed_more : HandedMore v w

-- What is certain of every state that `new` and the calls make.
pub record Lawful (v : BroadcastView) : Type 0 where
  pub net : LawfulNet v.net
  pub posters_are_cards : (m p : ℕ) → v.poster m ≡ Some p → p < v.net.cards
  pub posted_notes_below_32 : (m : ℕ) → is_some (v.poster m) ≡ true → m < 32
  pub only_posted_notes_handed : (p m : ℕ) → has (v.handed p) m ≡ true → is_some (v.poster m) ≡ true
  pub sets_fit_32_bits : (p : ℕ) → v.handed p < 2 ^ 32
  pub no_card_no_set : (p : ℕ) → v.net.cards ≤ p → v.handed p ≡ 0
  -- the rest law
  pub quiet_sets_equal : Quiet v.net → (p q : ℕ) → Runs v.net p → Runs v.net q → v.handed p ≡ v.handed q
  pub quiet_sets_full : Quiet v.net → (p q m : ℕ) → Runs v.net p → Runs v.net q → v.poster m ≡ Some p → has (v.handed q) m ≡ true

-- Uniform agreement: each note handed to any card, crashed or not, is handed to every running card.
abbrev pub UniformAgreement : BroadcastView → Type 0
UniformAgreement v = (p q m : ℕ) → has (v.handed p) m ≡ true → Runs v.net q → has (v.handed q) m ≡ true

-- The meaning of a broadcast: what its calls make of a state is named by the members of the interface, and known by what stands here.
-- `made` holds of what `new` makes, and each call keeps it.
pub record Meaning {S : Type 0} (view : S → BroadcastView) (made : S → Type 0) (bound : ℕ) (start : ℕ → S) (posting : S → ℕ → ℕ → S)
    (carrying losing crashing : S → ℕ → S) (suspecting : S → ℕ → ℕ → S) : Type 0 where
  pub bound_fits_32_bits : bound < 2 ^ 32
  pub new_made : (n : ℕ) → made (start n)
  pub new_means : (n : ℕ) → Started n (view (start n))
  pub post_made : (s : S) (p m : ℕ) → made s → post_answer (view s) p m ≡ Ok tt → made (posting s p m)
  pub post_means : (s : S) (p m : ℕ) → made s → post_answer (view s) p m ≡ Ok tt → Posted bound (view s) (view (posting s p m)) p m
  pub carry_made : (s : S) (i : ℕ) → made s → carry_answer (view s).net i ≡ Ok tt → made (carrying s i)
  pub carry_means : (s : S) (i : ℕ) → made s → carry_answer (view s).net i ≡ Ok tt → Carried (view s) (view (carrying s i))
  pub lose_made : (s : S) (i : ℕ) → made s → lose_answer (view s).net i ≡ Ok tt → made (losing s i)
  pub lose_means : (s : S) (i : ℕ) → made s → lose_answer (view s).net i ≡ Ok tt → Lost (view s) (view (losing s i)) i
  pub crash_made : (s : S) (p : ℕ) → made s → crash_answer (view s).net p ≡ Ok tt → made (crashing s p)
  pub crash_means : (s : S) (p : ℕ) → made s → crash_answer (view s).net p ≡ Ok tt → Crashed (view s) (view (crashing s p)) p
  pub suspect_made : (s : S) (q p : ℕ) → made s → suspect_answer (view s).net q p ≡ Ok tt → made (suspecting s q p)
  pub suspect_means : (s : S) (q p : ℕ) → made s → suspect_answer (view s).net q p ≡ Ok tt → Suspected (view s) (view (suspecting s q p)) q p
  pub lawful : (s : S) → made s → Lawful (view s)

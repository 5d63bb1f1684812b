-- What a list of calls and its answers tell: who posted which note, which cards have crashed, who suspects whom, and how many posts and
-- steps there were. Only accepted calls count.
use Rattle.std.specs.Prelude.{ℕ, ◌+◌, Bool, false, cond, ◌&&◌, ◌||◌, List, [], ◌∷◌, Ok, Err, Some, None, Option, ◌==◌}
use Rattle.total_order.specs.Calls.{Answer}
use Rattle.total_order.specs.declared.call.Settling.{Settling}
use Rattle.total_order.specs.declared.call.Call.{Call}
use Rattle.total_order.specs.declared.call.Call.TheVariants.{Post, Carry, Lose, Crash, Suspect, Propose, Take, Settle}

pub record Tally : Type 0 where
  pub poster : ℕ → Option ℕ
  pub crashed : ℕ → Bool
  pub suspects : ℕ → ℕ → Bool
  pub posts : ℕ
  pub steps : ℕ

abbrev pub nothing : Tally
nothing = record { poster = λ _. None; crashed = λ _. false; suspects = λ _ _. false; posts = 0; steps = 0 }

abbrev pub with_steps : ℕ → Tally → Tally
with_steps n t = record { poster = t.poster; crashed = t.crashed; suspects = t.suspects; posts = t.posts; steps = t.steps + n }

abbrev pub with_post : ℕ → ℕ → Tally → Tally
with_post p m t = record { poster = λ j. cond (j == m) (Some p) (t.poster j); crashed = t.crashed; suspects = t.suspects; posts = t.posts + 1; steps = t.steps }

abbrev pub with_crash : ℕ → Tally → Tally
with_crash p t = record { poster = t.poster; crashed = λ q. (q == p) || t.crashed q; suspects = t.suspects; posts = t.posts; steps = t.steps }

abbrev pub with_suspicion : ℕ → ℕ → Tally → Tally
with_suspicion q p t = record { poster = t.poster; crashed = t.crashed; suspects = λ x y. (x == q && y == p) || t.suspects x y; posts = t.posts; steps = t.steps }

abbrev pub steps_of : Option Settling → ℕ
steps_of None = 0
steps_of (Some done) = done.steps

-- What an accepted call adds. An accepted carry, loss, proposal or take is a step, and so is each that settle made.
abbrev pub with_call : Call → Option Settling → Tally → Tally
with_call (Post p m) a t = with_post p m t
with_call (Carry w i) a t = with_steps 1 t
with_call (Lose w i) a t = with_steps 1 t
with_call (Crash p) a t = with_crash p t
with_call (Suspect q p) a t = with_suspicion q p t
with_call (Propose p) a t = with_steps 1 t
with_call (Take p) a t = with_steps 1 t
with_call (Settle limit) a t = with_steps (steps_of a) t

-- A refused call adds nothing.
abbrev pub with_answer : Call → Answer → Tally → Tally
with_answer k (Ok a) t = with_call k a t
with_answer k (Err e) t = t

abbrev pub with_calls : Tally → List Call → List Answer → Tally
with_calls t [] answers = t
with_calls t (k ∷ ks) [] = t
with_calls t (k ∷ ks) (a ∷ answers) = with_calls (with_answer k a t) ks answers

abbrev pub tally : List Call → List Answer → Tally
tally = with_calls nothing

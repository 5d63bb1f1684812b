-- Lists of calls on a broadcast, and what comes of them.
use Rattle.std.specs.Prelude.{◌≡◌, ℕ, cond, List, [], ◌∷◌, ◌++◌, Result, is_ok}
use Rattle.parts.specs.Views.{BroadcastView}
use Rattle.parts.specs.declared.refusal.Refusal.{Refusal}
use Rattle.parts.specs.Refusals.{post_answer, carry_answer, lose_answer, crash_answer, suspect_answer}
use Rattle.parts.specs.Shown.{shown}
use Rattle.parts.specs.declared.broadcast.Broadcast.{Ghosts as Broadcasts}
use Rattle.inturn.specs.declared.post.Post.{Post}
use Rattle.inturn.specs.Turns.{post_of, written}
use Rattle.inturn.specs.Layers.{Layered, layered, shown_in_turn}

-- What a broadcast shows of its states, and what its accepted calls make of them.
pub record Behaviour (S : Type 0) : Type 0 where
  pub view : S → BroadcastView
  pub start : ℕ → S
  pub posting : S → ℕ → ℕ → S
  pub carrying : S → ℕ → S
  pub losing : S → ℕ → S
  pub crashing : S → ℕ → S
  pub suspecting : S → ℕ → ℕ → S

abbrev pub behaviour : {X : Type 0} (b : Broadcasts X) → Behaviour b.State
behaviour b =
    record { view = shown b; start = b.start; posting = b.posting; carrying = b.carrying; losing = b.losing; crashing = b.crashing; suspecting = b.suspecting }

-- The layer over it: an accepted post is written into the table, all other calls are the lower one's.
abbrev pub in_turn_over : {S : Type 0} → Behaviour S → Behaviour (Layered S)
in_turn_over b =
    record {
      view = λ s. shown_in_turn s.posts (b.view s.below);
      start = λ n. layered (b.start n) [];
      posting = λ s p m. layered (b.posting s.below p m) (written s.posts p m);
      carrying = λ s i. layered (b.carrying s.below i) s.posts;
      losing = λ s i. layered (b.losing s.below i) s.posts;
      crashing = λ s p. layered (b.crashing s.below p) s.posts;
      suspecting = λ s q p. layered (b.suspecting s.below q p) s.posts;
    }

-- The calls that may change a broadcast.
pub data Call : Type 0 where
  post : ℕ → ℕ → Call
  carry : ℕ → Call
  lose : ℕ → Call
  crash : ℕ → Call
  suspect : ℕ → ℕ → Call

module _ {S : Type 0} (b : Behaviour S) where
  -- What a call answers.
  abbrev pub answer : S → Call → Result Unit Refusal
  answer s (post p m) = post_answer (b.view s) p m
  answer s (carry i) = carry_answer (b.view s).net i
  answer s (lose i) = lose_answer (b.view s).net i
  answer s (crash p) = crash_answer (b.view s).net p
  answer s (suspect q p) = suspect_answer (b.view s).net q p

  -- What an accepted call makes.
  abbrev pub accepted : S → Call → S
  accepted s (post p m) = b.posting s p m
  accepted s (carry i) = b.carrying s i
  accepted s (lose i) = b.losing s i
  accepted s (crash p) = b.crashing s p
  accepted s (suspect q p) = b.suspecting s q p

  -- A refused call changes nothing.
  abbrev pub next : S → Call → S
  next s c = cond (is_ok (answer s c)) (accepted s c) s

  abbrev pub after : S → List Call → S
  after s [] = s
  after s (c ∷ cs) = after (next s c) cs

  abbrev pub answers : S → List Call → List (Result Unit Refusal)
  answers s [] = []
  answers s (c ∷ cs) = answer s c ∷ answers (next s c) cs

  -- The state that the calls make since `new` with n cards, and what they answer on the way.
  abbrev pub reached : ℕ → List Call → S
  reached n calls = after (b.start n) calls

  abbrev pub told : ℕ → List Call → List (Result Unit Refusal)
  told n calls = answers (b.start n) calls

  -- The accepted posts of the calls, in their order.
  abbrev pub posts_in : S → Call → List Post
  posts_in s (post p m) = cond (is_ok (post_answer (b.view s) p m)) (post_of p m ∷ []) []
  posts_in s (carry i) = []
  posts_in s (lose i) = []
  posts_in s (crash p) = []
  posts_in s (suspect q p) = []

  abbrev pub accepted_posts : S → List Call → List Post
  accepted_posts s [] = []
  accepted_posts s (c ∷ cs) = posts_in s c ++ accepted_posts (next s c) cs

-- All but the handed sets is as below: the same calls since `new` are answered alike and make the same state below, and the table
-- holds the accepted posts in the order of the calls.
pub record AsBelow {S : Type 0} (b : Behaviour S) : Type 0 where
  pub same_answers : (n : ℕ) (calls : List Call) → told (in_turn_over b) n calls ≡ told b n calls
  pub same_below : (n : ℕ) (calls : List Call) → (reached (in_turn_over b) n calls).below ≡ reached b n calls
  pub posts_in_order : (n : ℕ) (calls : List Call) → (reached (in_turn_over b) n calls).posts ≡ accepted_posts b (b.start n) calls

-- Two layers behave as one: the same calls since `new` are answered alike, and what is then shown is the same.
pub record TwiceAsOnce {S : Type 0} (b : Behaviour S) : Type 0 where
  pub same_answers : (n : ℕ) (calls : List Call) → told (in_turn_over (in_turn_over b)) n calls ≡ told (in_turn_over b) n calls
  pub same_view : (n : ℕ) (calls : List Call) → (in_turn_over (in_turn_over b)).view (reached (in_turn_over (in_turn_over b)) n calls) ≡ (in_turn_over b).view (reached (in_turn_over b) n calls)

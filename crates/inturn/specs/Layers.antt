-- The layer over any broadcast: its state, what it shows, and what is certain of its table.
use Rattle.std.specs.Prelude.{◌≡◌, ℕ, ◌<◌, true, List, length, Some, Option}
use Rattle.notes.specs.Sets.{has}
use Rattle.parts.specs.Views.{BroadcastView}
use Rattle.inturn.specs.declared.post.Post.{Post}
use Rattle.inturn.specs.Turns.{post_of, post_at, in_turn}

-- The state of the broadcast below, and the accepted posts in the order of posting.
pub record Layered (S : Type 0) : Type 0 where
  pub below : S
  pub posts : List Post

abbrev pub layered : {S : Type 0} → S → List Post → Layered S
layered s posts = record { below = s; posts = posts }

-- What is shown over a broadcast that shows v: the handed sets in turn, all else as below.
abbrev pub shown_in_turn : List Post → BroadcastView → BroadcastView
shown_in_turn posts v = record { net = v.net; poster = v.poster; handed = λ p. in_turn posts (v.handed p) }

-- The table holds each post of the broadcast below, once, and no other.
pub record Agrees (poster : ℕ → Option ℕ) (posts : List Post) : Type 0 where
  pub listed : (m p : ℕ) → poster m ≡ Some p → (i : ℕ) × (i < length posts) × (post_at posts i ≡ post_of p m)
  pub posted : (i : ℕ) → i < length posts → poster (post_at posts i).note ≡ Some (post_at posts i).card
  pub once : (i j : ℕ) → i < length posts → j < length posts → (post_at posts i).note ≡ (post_at posts j).note → i ≡ j

-- What `new` and the calls make of the layer: the state below is made so, and the table agrees with its posters.
abbrev pub MadeInTurn : {S : Type 0} → (S → Type 0) → (S → ℕ → Option ℕ) → Layered S → Type 0
MadeInTurn made poster s = made s.below × Agrees (poster s.below) s.posts

-- The same card posted note k, and later note m.
pub record PostedBefore (posts : List Post) (k m : ℕ) : Type 0 where
  pub earlier : ℕ
  pub later : ℕ
  pub order : earlier < later
  pub in_table : later < length posts
  pub earlier_note : (post_at posts earlier).note ≡ k
  pub later_note : (post_at posts later).note ≡ m
  pub same_card : (post_at posts earlier).card ≡ (post_at posts later).card

-- Note m and all earlier posts of its poster are in the set s.
pub record HeldInTurn (posts : List Post) (s m : ℕ) : Type 0 where
  pub note : has s m ≡ true
  pub earlier_notes : (k : ℕ) → PostedBefore posts k m → has s k ≡ true

-- Wherever a note counts as handed, every earlier post of its card does too.
abbrev pub InOrder : List Post → (ℕ → ℕ) → Type 0
InOrder posts handed = (c m k : ℕ) → has (handed c) m ≡ true → PostedBefore posts k m → has (handed c) k ≡ true

-- Which notes of a set count where each card's posts are taken in the order of posting.
use Rattle.std.specs.Prelude.{ℕ, zero, suc, Bool, cond, not, ◌&&◌, List, [], ◌∷◌, ◌++◌, length, nat_lt, slice_index_or}
use Rattle.notes.specs.Sets.{has, added}
use Rattle.inturn.specs.declared.post.Post.{Post}

-- The post of note m by card p.
abbrev pub post_of : ℕ → ℕ → Post
post_of p m = record { card = p; note = m }

-- The post at place i of a table; what stands past the table's end is never asked for.
abbrev pub post_at : List Post → ℕ → Post
post_at posts i = slice_index_or posts i (post_of 0 0)

-- A post joins the table's end. There is room for 32: more are never made, since each note is posted once.
abbrev pub written : List Post → ℕ → ℕ → List Post
written posts p m = cond (nat_lt (length posts) 32) (posts ++ (post_of p m ∷ [])) posts

-- The cards that the first k posts block: each blocks its card where its note is not in s. The cards are a set of numbers, as the notes
-- are, and no number above 31 is in a set; a carrier has six cards at most.
abbrev pub blocked_by : List Post → ℕ → ℕ → ℕ
blocked_by posts s zero = 0
blocked_by posts s (suc k) = cond (has s (post_at posts k).note) (blocked_by posts s k) (added (blocked_by posts s k) (post_at posts k).card)

-- Whether the post at place i counts: its note is in s, and no earlier post blocks its card.
abbrev pub counts : List Post → ℕ → ℕ → Bool
counts posts s i = has s (post_at posts i).note && not (has (blocked_by posts s i) (post_at posts i).card)

-- The notes of the first k posts that count.
abbrev pub counted_of : List Post → ℕ → ℕ → ℕ
counted_of posts s zero = 0
counted_of posts s (suc k) = cond (counts posts s k) (added (counted_of posts s k) (post_at posts k).note) (counted_of posts s k)

-- The notes that count where those of s are handed.
abbrev pub in_turn : List Post → ℕ → ℕ
in_turn posts s = counted_of posts s (length posts)

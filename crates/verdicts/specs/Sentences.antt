-- The sentences of the order law, of cards and their logs as plain lists.
use Rattle.std.specs.Prelude.{◌≡◌, ℕ, ◌<◌, true, false, ◌⊎◌, List, length, All, Any, IsSomeAnd, slice_get}
use Rattle.order.specs.Words.{among, Begins, NoneTwice}
use Rattle.verdicts.specs.declared.evidence.CardLog.{CardLog}
use Rattle.verdicts.specs.declared.evidence.Post.{Post}
use Rattle.verdicts.specs.declared.evidence.Suspicion.{Suspicion}

-- Of two logs, one begins the other.
unfoldable pub OneBegins : List ℕ → List ℕ → Type 0
OneBegins a b = Begins a b ⊎ Begins b a

unfoldable pub BeginsOrIsBegunByAll : List ℕ → List CardLog → Type 0
BeginsOrIsBegunByAll log cards = All (λ other. OneBegins log other.notes.items) cards

-- Of any two logs, one begins the other.
unfoldable pub OneBeginsTheOther : List CardLog → Type 0
OneBeginsTheOther cards = All (λ card. BeginsOrIsBegunByAll card.notes.items cards) cards

-- No note stands twice in a log.
unfoldable pub NoNoteTwice : List CardLog → Type 0
NoNoteTwice cards = All (λ card. NoneTwice card.notes.items) cards

-- Some card has posted the note.
unfoldable pub IsPosted : List Post → ℕ → Type 0
IsPosted posts note = Any (λ post. post.note ≡ note) posts

unfoldable pub ArePosted : List Post → List ℕ → Type 0
ArePosted posts log = All (λ note. IsPosted posts note) log

-- Only posted notes stand in a log.
unfoldable pub OnlyPostedNotes : List CardLog → List Post → Type 0
OnlyPostedNotes cards posts = All (λ card. ArePosted posts card.notes.items) cards

-- A card's number is its place in the list of cards.
unfoldable pub Runs : List CardLog → ℕ → Type 0
Runs cards p = IsSomeAnd (slice_get cards p) (λ card. card.down ≡ false)

unfoldable pub IsDown : List CardLog → ℕ → Type 0
IsDown cards p = IsSomeAnd (slice_get cards p) (λ card. card.down ≡ true)

unfoldable pub EqualsRunningLogs : List ℕ → List CardLog → Type 0
EqualsRunningLogs log cards = All (λ other. other.down ≡ false → log ≡ other.notes.items) cards

-- The logs of running cards are equal.
unfoldable pub RunningLogsAgree : List CardLog → Type 0
RunningLogsAgree cards = All (λ card. card.down ≡ false → EqualsRunningLogs card.notes.items cards) cards

unfoldable pub HoldsRunningPosts : List ℕ → List CardLog → List Post → Type 0
HoldsRunningPosts log cards posts = All (λ post. Runs cards post.card → among post.note log ≡ true) posts

-- The log of each running card holds what running cards posted.
unfoldable pub RunningPostsLogged : List CardLog → List Post → Type 0
RunningPostsLogged cards posts = All (λ card. card.down ≡ false → HoldsRunningPosts card.notes.items cards posts) cards

unfoldable pub IsBegunByCrashedLogs : List ℕ → List CardLog → Type 0
IsBegunByCrashedLogs log cards = All (λ other. other.down ≡ true → Begins other.notes.items log) cards

-- Each crashed card's log begins that of each running card.
unfoldable pub CrashedLogsBeginRunningOnes : List CardLog → Type 0
CrashedLogsBeginRunningOnes cards = All (λ card. card.down ≡ false → IsBegunByCrashedLogs card.notes.items cards) cards

-- Card q suspects card p.
unfoldable pub Suspects : List Suspicion → ℕ → ℕ → Type 0
Suspects suspicions q p = Any (λ one. (one.by ≡ q) × (one.card ≡ p)) suspicions

unfoldable pub SuspectsAllDown : ℕ → List CardLog → List Suspicion → Type 0
SuspectsAllDown q cards suspicions = (p : ℕ) → p < length cards → IsDown cards p → Suspects suspicions q p

-- Every running card suspects every crashed one.
unfoldable pub AllCrashesSuspected : List CardLog → List Suspicion → Type 0
AllCrashesSuspected cards suspicions = (q : ℕ) → q < length cards → Runs cards q → SuspectsAllDown q cards suspicions

-- What a program does to what a reader has left and to what a writer holds, as far as they are known.
use Rattle.std.specs.Prelude.{ℕ, ◌<◌, ◌≤◌, List, length, take, Some, None, Ok, Err, Option, Result, codes}
use Rattle.std.specs.Io.KnownBytes.{Consumes, Appends, Keeps, IsAtEnd}
use Rattle.streams.specs.declared.failure.Failure.{Failure}
use Rattle.streams.specs.declared.failure.Failure.TheVariants.{Reading, Memory, Writing}

-- What is said of a failure, where it is known: of one of the system's, the system has the words.
abbrev pub failure_text : Failure → Option (List ℕ)
failure_text (Reading error) = None
failure_text Memory = Some (codes "no memory for the answer")
failure_text (Writing error) = None

-- These bytes are read and no others: all that is left, or its first so many.
pub record Reads (most : ℕ) (left rest : Option (List ℕ)) (bytes : List ℕ) : Type 0 where
  pub few : length bytes ≤ most
  pub first : Consumes left rest bytes
  pub all : length bytes < most → IsAtEnd rest

-- So many bytes are read at most.
pub record ReadsAtMost (most : ℕ) (left rest : Option (List ℕ)) : Type 0 where
  pub bytes : List ℕ
  pub few : length bytes ≤ most
  pub first : Consumes left rest bytes

-- A beginning of these bytes is written, and nothing else.
pub record WritesSome (held holds : Option (List ℕ)) (bytes : List ℕ) : Type 0 where
  pub count : ℕ
  pub written : Appends held holds (take count bytes)

-- Why nothing is answered: reading failed, or memory was wanting.
abbrev pub BreaksOffReading : ℕ → Option (List ℕ) → Option (List ℕ) → Failure → Type 0
BreaksOffReading most left rest (Reading error) = ReadsAtMost most left rest
BreaksOffReading most left rest Memory = ReadsAtMost most left rest
BreaksOffReading most left rest (Writing error) = ⊥

module _ (answer_to : List ℕ → List ℕ) (left rest held holds : Option (List ℕ)) where
  -- What was read is answered, and nothing else is written.
  pub record IsAnswered : Type 0 where
    pub input : List ℕ
    pub read : Reads 65537 left rest input
    pub written : Appends held holds (answer_to input)

  -- What was read is answered as far as writing went.
  pub record BreaksOffWriting : Type 0 where
    pub input : List ℕ
    pub read : Reads 65537 left rest input
    pub written : WritesSome held holds (answer_to input)

  -- Where reading fails or memory is wanting, nothing is written.
  abbrev pub Ends : Result Unit Failure → Type 0
  Ends (Ok done) = IsAnswered
  Ends (Err (Reading error)) = ReadsAtMost 65537 left rest × Keeps held holds
  Ends (Err Memory) = ReadsAtMost 65537 left rest × Keeps held holds
  Ends (Err (Writing error)) = BreaksOffWriting

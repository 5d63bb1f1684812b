-- All worked examples.
use Rattle.worked.specs.Examples.{late_note_calls, one_batch_calls, LateNote, OneBatch, StepsWithinTheBound}
use Rattle.worked.specs.Files.{WorkedFiles}
use Rattle.worked.specs.Shelves.{OneOfEachShelf}

-- Two runs, with the steps that they make and may make, the table of whole files, and a schedule of each shelf.
pub record WorkedExamples : Type 0 where
  pub late_note : LateNote
  pub late_note_steps : StepsWithinTheBound late_note_calls 16 24
  pub one_batch : OneBatch
  pub one_batch_steps : StepsWithinTheBound one_batch_calls 10 24
  pub files : WorkedFiles
  pub shelves : OneOfEachShelf

-- When the collection holds.
use Rattle.std.specs.Prelude.{◌≡◌, ◌<◌, List, length, All}
use Rattle.collection.specs.declared.trial.Trial.{Trial}

-- There is a schedule, and each came to what is told of it, byte for byte.
abbrev pub AllTold : List Trial → Type 0
AllTold trials = (0 < length trials) × All (λ trial. trial.came.items ≡ trial.told.items) trials

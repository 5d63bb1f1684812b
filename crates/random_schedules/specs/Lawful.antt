-- When the order law holds of all that was drawn.
use Rattle.std.specs.Prelude.{◌<◌, List, length, All}
use Rattle.verdicts.specs.Law.{KeepsOneOrder}
use Rattle.random_schedules.specs.declared.trial.Trial.{Trial}

-- A schedule was drawn, and the order law holds of what the report of each has shown.
abbrev pub AllLawful : List Trial → Type 0
AllLawful trials = (0 < length trials) × All (λ trial. KeepsOneOrder trial.terms trial.evidence) trials

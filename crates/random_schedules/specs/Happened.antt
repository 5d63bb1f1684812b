-- What the accepted events of a schedule did.
use Rattle.std.specs.Prelude.{Bool, not, List, map, Option, Some, None, filter, zip}
use Rattle.entries.specs.declared.event.Event.{Event}
use Rattle.entries.specs.declared.event.Event.TheVariants.{Post, Propose, Take, Crash, Suspect, Carry, Lose, Settle}
use Rattle.verdicts.specs.declared.evidence.Post.{Post as Posted}
use Rattle.verdicts.specs.declared.evidence.Suspicion.{Suspicion}

-- The events that were not refused.
abbrev pub accepted : List Event → List Bool → List Event
accepted events refused = map (λ pair. pair.0) (filter (λ pair. not pair.1) (zip events refused))

abbrev pub post_of : Event → Option Posted
post_of (Post p m) = Some (record { card = p; note = m })
post_of (Propose p) = None
post_of (Take p) = None
post_of (Crash p) = None
post_of (Suspect q p) = None
post_of (Carry w i) = None
post_of (Lose w i) = None
post_of (Settle limit) = None

abbrev pub suspicion_of : Event → Option Suspicion
suspicion_of (Post p m) = None
suspicion_of (Propose p) = None
suspicion_of (Take p) = None
suspicion_of (Crash p) = None
suspicion_of (Suspect q p) = Some (record { by = q; card = p })
suspicion_of (Carry w i) = None
suspicion_of (Lose w i) = None
suspicion_of (Settle limit) = None

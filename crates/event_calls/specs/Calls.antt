-- Which call an event makes.
use Rattle.entries.specs.declared.event.Event.{Event}
use Rattle.entries.specs.declared.event.Event.TheVariants as events
use Rattle.total_order.specs.declared.call.Call.{Call}
use Rattle.total_order.specs.declared.call.Call.TheVariants.{Post, Carry, Lose, Crash, Suspect, Propose, Take, Settle}

abbrev pub call_of : Event → Call
call_of (events.Post card note) = Post card note
call_of (events.Propose card) = Propose card
call_of (events.Take card) = Take card
call_of (events.Crash card) = Crash card
call_of (events.Suspect by card) = Suspect by card
call_of (events.Carry wire item) = Carry wire item
call_of (events.Lose wire item) = Lose wire item
call_of (events.Settle limit) = Settle limit

-- The events that callers ask for.
use Rattle.dac_messages.specs.declared.event.Event.{Event}
use Rattle.dac_messages.specs.declared.event.Event.TheVariants as event
use Rattle.dac_crews.specs.declared.phases.CallerEvent.{CallerEvent}
use Rattle.dac_crews.specs.declared.phases.CallerEvent.TheVariants.{Boot, Crash, Command, Tick}

-- the event of the node
abbrev pub event_of : CallerEvent → Event
event_of (Boot now) = event.Boot now
event_of Crash = event.Crash
event_of (Command command) = event.Command command
event_of (Tick now) = event.Tick now

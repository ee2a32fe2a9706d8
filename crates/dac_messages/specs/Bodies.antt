-- The content of a message.
use Rattle.std.specs.Prelude.{Option, Some, None}
use Rattle.dac_state.specs.StateValue.{StateValue, bottom}
use Rattle.dac_messages.specs.declared.message.Body.{Body}
use Rattle.dac_messages.specs.declared.message.Body.TheVariants.{Whole, Interval, Nothing}

-- the state that a body carries, if any
abbrev pub state_in : Body → Option StateValue
state_in (Whole s) = Some s
state_in (Interval s) = Some s
state_in Nothing = None

-- the state that a receiver merges: the least state if the body carries none
abbrev pub content_of : Body → StateValue
content_of (Whole s) = s
content_of (Interval s) = s
content_of Nothing = bottom

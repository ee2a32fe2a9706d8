-- Requests as world events.
use Rattle.dac_events.specs.declared.What.{What}
use Rattle.dac_events.specs.declared.What.TheVariants as what
use Rattle.dac_script.specs.declared.line.Request.{Request}
use Rattle.dac_script.specs.declared.line.Request.TheVariants as request

-- the event that a request is at its node
abbrev pub what_of : Request → What
what_of (request.Boot now) = what.Boot now
what_of request.Crash = what.Crash
what_of (request.Command given) = what.Command given
what_of (request.Tick now) = what.Tick now

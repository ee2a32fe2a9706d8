use Rattle.std.proofs.Common.{◌≡◌, map, take}
use Rattle.dac_script.specs.declared.line.ScriptLine.TheVariants as says
use Rattle.dac_live_play.proofs.saying.say_events.Given as goal

abbrev pub invariant-loop-place : goal.invariant-loop-place
invariant-loop-place l = take l.place l.lines ≡ map says.Event (take l.place l.events)

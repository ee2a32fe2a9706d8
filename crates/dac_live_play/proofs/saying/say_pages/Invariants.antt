use Rattle.std.proofs.Common.{◌≡◌, map, take}
use Rattle.dac_live_play.proofs.Common.{range_with_len}
use Rattle.dac_script.specs.declared.line.ScriptLine.TheVariants as says
use Rattle.dac_live_play.proofs.Lines.{numbered}
use Rattle.dac_live_play.proofs.saying.say_pages.Given as goal

abbrev pub invariant-loop-number : goal.invariant-loop-number
invariant-loop-number l = take l.number l.lines ≡ map says.Page (map numbered (range_with_len 0 l.number))

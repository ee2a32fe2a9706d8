use Rattle.std.proofs.Common.{◌≡◌, ◌++◌, take}
use Rattle.std.specs.List.{flat_map}
use Rattle.dac_play.specs.Ticks.{passed_text}
use Rattle.dac_play.proofs.ticks.put_passed.Given as goal

abbrev pub invariant-loop-app : goal.invariant-loop-app
invariant-loop-app l = l.lines.items ≡ l.fn.lines.items ++ flat_map (passed_text l.config) (take l.app-index l.passed)

use Rattle.std.proofs.Common.{map, take}
use Rattle.dac_live_play.proofs.Common.{AsksAs}
use Rattle.dac_live_play.proofs.phases.phases_of.Given as goal

abbrev pub invariant-loop-part : goal.invariant-loop-part
invariant-loop-part l = AsksAs l.phases.items (map (λ part. part.now) (take l.part-index l.parts))

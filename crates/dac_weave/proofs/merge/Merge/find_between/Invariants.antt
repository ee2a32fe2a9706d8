use Rattle.dac_weave.specs.laws.Common.{BlockedBetween}
use Rattle.dac_weave.proofs.merge.Merge.find_between.Given as goal

abbrev pub invariant-loop-i : goal.invariant-loop-i
invariant-loop-i l = BlockedBetween l.journals l.self l.fn.low l.i

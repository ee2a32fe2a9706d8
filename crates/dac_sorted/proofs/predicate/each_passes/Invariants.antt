use Rattle.std.proofs.Common.{take}
use Rattle.dac_sorted.specs.Digests.{SaysAll}
use Rattle.dac_sorted.proofs.predicate.each_passes.Given as goal

abbrev pub invariant-loop-key : goal.invariant-loop-key
invariant-loop-key g l = SaysAll (g.T.Predicate.holds l.predicate) (take l.key-index l.entries)

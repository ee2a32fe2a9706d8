use Rattle.std.proofs.Common.{take}
use Rattle.dac_sorted.specs.Digests.{SaysAll}
use Rattle.dac_sorted.proofs.block.digest_of.Given as goal

abbrev pub invariant-loop-key : goal.invariant-loop-key
invariant-loop-key g l = SaysAll (g.D.Digest.says l.digest) (take l.key-index l.entries)

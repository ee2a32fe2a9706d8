use Rattle.std.proofs.Common.{length}
use Rattle.dac_store.proofs.dot_map.DotMap.first_heard.Given as goal

abbrev pub decreases-loop-chunk : goal.decreases-loop-chunk
decreases-loop-chunk g l = length l.chunks

use Rattle.std.proofs.Common.{◌≡◌, ◌+◌, length}
use Rattle.dac_dots.specs.Entries.{counted}
use Rattle.dac_dots.proofs.context.Context.has_at_most.Given as goal

abbrev pub invariant-loop-chunk : goal.invariant-loop-chunk
invariant-loop-chunk l = l.room + counted l.initial.chunks ≡ l.most + counted l.chunks

abbrev pub decreases-loop-chunk : goal.decreases-loop-chunk
decreases-loop-chunk l = length l.chunks

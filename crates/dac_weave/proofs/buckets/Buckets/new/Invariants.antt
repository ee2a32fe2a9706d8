use Rattle.std.proofs.Common.{◌<◌, length}
use Rattle.dac_weave.proofs.Finding.{AllEmpty}
use Rattle.dac_weave.proofs.buckets.Buckets.new.Given as goal

abbrev pub invariant-loop : goal.invariant-loop
invariant-loop l = record { some : 0 < length l.lists.items; empty : AllEmpty l.lists.items }

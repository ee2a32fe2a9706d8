use Rattle.std.proofs.Common.{drop}
use Rattle.dac_store.proofs.ChunkLemmas.{IsFilling}
use Rattle.dac_store.proofs.chunk.fill_each.Given as goal

abbrev pub invariant-loop-store : goal.invariant-loop-store
invariant-loop-store g l = IsFilling g.S.DotStore.has l.entries (drop l.store-index l.entries) l.fn.filter.slots l.filter.slots

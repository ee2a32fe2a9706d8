use Rattle.dac_store.proofs.ChunkLemmas.{has_unless}
use Rattle.dac_store.proofs.dot_map.DotMapDotStore.has.Goals as goal

pub returns : goal.returns
returns g c = has_unless g.S.DotStore.has c.args.self.now c.args.dot c.all.result (rw c.self.view_is at c.all.ensures)

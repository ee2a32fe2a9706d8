use Rattle.dac_store.proofs.dot_map.DotMap.are_others_unheard.Goals as goal

pub returns : goal.returns
returns g c = (rw c.self.view_is at c.all.ensures).0

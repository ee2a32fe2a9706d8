use Rattle.dac_store.proofs.causal.CausalLattice.join.Goals as goal

pub join_with_context-requires : goal.join_with_context-requires
join_with_context-requires g c = rw (← c.self.view_is, ← c.other.view_is) c.in_ok-union.ensures

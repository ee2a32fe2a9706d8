use Rattle.dac_lattice.proofs.maps.MapOf.get.Goals as goal

pub value_at-requires : goal.value_at-requires
value_at-requires g c = rw c.entries.ensures c.tells_invariant.ensures.in_order

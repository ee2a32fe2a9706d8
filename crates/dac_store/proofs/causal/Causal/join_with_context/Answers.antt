use Rattle.dac_store.specs.laws.Stores.{within_join}
use Rattle.dac_store.proofs.causal.Causal.join_with_context.Goals as goal

pub invariant_of-result : goal.invariant_of-result
invariant_of-result g c =
    rw (c.in_ok-store.ensures, c.in_ok-context.ensures, c.requires, c.borrowed.ensures, c.borrowed-2.ensures) (within_join g.met.S.DotStore.laws _ _ _ _ c.tells_invariant.ensures c.tells_invariant-2.ensures)

use Rattle.dac_store.proofs.CausalLemmas.{join_stays}
use Rattle.dac_store.proofs.causal_ref.absorb_store.Goals as goal

pub returns-then-is_left-clause-ok : goal.returns-then-is_left-clause-ok
returns-then-is_left-clause-ok g c =
    join_stays g.met.S.DotStore.laws _ _ _ _ c.tells_invariant.ensures (rw c.store.ensures at (c.is_left.ensures.nothing c.if-is_left.true)) (rw c.context.ensures at (c.is_left.ensures.unheard c.if-is_left.true))

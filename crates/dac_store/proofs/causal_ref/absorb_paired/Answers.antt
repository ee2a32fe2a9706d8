use Rattle.std.proofs.Common.{◌∙◌}
use Rattle.dac_store.proofs.CausalLemmas.{join_fresh}
use Rattle.dac_store.proofs.causal_ref.absorb_paired.Goals as goal

pub returns-then-branch-clause-ok : goal.returns-then-branch-clause-ok
returns-then-branch-clause-ok g c =
    let done = rw c.if-branch.true at c.in_ok-absorb_after.ensures.ok in
    let unheard = rw c.store.ensures at (c.has_heard_none_of.ensures.0 c.if-has_heard_none_of.true) in
    let joined = rw (c.empty-nothing.ensures, c.store-then-has_heard_none_of.ensures, c.context.ensures) at done.1 in (
      joined ∙ join_fresh g.met.S.DotStore.laws _ _ _ _ c.tells_invariant.ensures c.tells_invariant-2.ensures.store unheard,
      rw c.context-then-has_heard_none_of.ensures at done.0,
    )

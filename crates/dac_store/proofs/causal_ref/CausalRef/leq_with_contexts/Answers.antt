use Rattle.dac_store.proofs.causal_ref.CausalRef.leq_with_contexts.Goals as goal

pub returns : goal.returns
returns g c =
    let stores = rw (c.store.ensures, c.context.ensures, c.store-2.ensures, c.context-2.ensures) at c.leq_in.ensures in
    (λ e. (c.requires, stores.0 e), λ below. stores.1 below.1)

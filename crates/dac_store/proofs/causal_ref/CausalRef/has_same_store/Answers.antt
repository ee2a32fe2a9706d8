use Rattle.std.proofs.Common.{◌∙◌, sym, ap, refl}
use Rattle.std.proofs.lemmas.Bool.{false≢true}
use Rattle.dac_store.specs.laws.Stores.{causal_laws}
use Rattle.dac_store.proofs.causal_ref.CausalRef.has_same_store.Goals as goal

pub leq_with_contexts-requires : goal.leq_with_contexts-requires
leq_with_contexts-requires g c = rw c.requires (λ _ h. h)

pub returns-then-is_same : goal.returns-then-is_same
returns-then-is_same g c =
    let stores = sym (ap (λ v. v.store) c.self.view_is) ∙ c.is_same.ensures c.if-is_same.true ∙ ap (λ v. v.store) c.other.view_is in
    (λ _ i. record { store = stores i; context = c.requires i }, λ _. refl)

pub returns-then-leq_with_contexts : goal.returns-then-leq_with_contexts
returns-then-leq_with_contexts g c =
    let laws = causal_laws g.met.S.DotStore.laws in (
      λ e. laws.antisymm _ _ c.tells_invariant.ensures c.tells_invariant-2.ensures (c.leq_with_contexts.ensures.0 c.if-leq_with_contexts.true) (c.leq_with_contexts-then-leq_with_contexts.ensures.0 e),
      λ same. c.leq_with_contexts-then-leq_with_contexts.ensures.1 (rw same (laws.refl _ c.tells_invariant-2.ensures)),
    )

pub returns-else-leq_with_contexts : goal.returns-else-leq_with_contexts
returns-else-leq_with_contexts g c =
    let laws = causal_laws g.met.S.DotStore.laws in (
      λ e. absurd (false≢true (sym c.if-leq_with_contexts.false ∙ e)),
      λ same. absurd (false≢true (sym c.if-leq_with_contexts.false ∙ c.leq_with_contexts.ensures.1 (rw same (laws.refl _ c.tells_invariant-2.ensures)))),
    )

use Rattle.std.proofs.Common.{◌∙◌, sym}
use Rattle.std.proofs.lemmas.Bool.{false≢true}
use Rattle.dac_store.proofs.causal.CausalLattice.leq.Goals as goal

pub leq_with_contexts-requires : goal.leq_with_contexts-requires
leq_with_contexts-requires g c = (rw (c.context.ensures, c.context-2.ensures) at c.is_subset.ensures).0 c.if-is_subset.true

pub returns-else-is_subset : goal.returns-else-is_subset
returns-else-is_subset g c =
    let subset = rw (c.context.ensures, c.context-2.ensures) at c.is_subset.ensures in
    (λ e. absurd (false≢true (sym c.if-is_subset.false ∙ e)), λ below. absurd (false≢true (sym c.if-is_subset.false ∙ subset.1 below.0)))

use Rattle.std.proofs.Common.{◌∙◌, sym}
use Rattle.std.proofs.lemmas.Bool.{false≢true}
use Rattle.dac_store.specs.laws.Stores.{same_context}
use Rattle.dac_store.proofs.causal_ref.CausalRef.has_same_context.Goals as goal

pub returns-then-is_subset : goal.returns-then-is_subset
returns-then-is_subset g c =
    let there = (rw (c.context-mine.ensures, c.context-theirs.ensures) at c.is_subset.ensures).0 c.if-is_subset.true in
    let back = rw (c.context-mine.ensures, c.context-theirs.ensures) at c.is_subset-then-is_subset.ensures in
    (λ e. same_context _ _ there (back.0 e), λ same. back.1 (rw same (λ _ h. h)))

pub returns-else-is_subset : goal.returns-else-is_subset
returns-else-is_subset g c =
    let there = rw (c.context-mine.ensures, c.context-theirs.ensures) at c.is_subset.ensures in
    (λ e. absurd (false≢true (sym c.if-is_subset.false ∙ e)), λ same. absurd (false≢true (sym c.if-is_subset.false ∙ there.1 (rw same (λ _ h. h)))))

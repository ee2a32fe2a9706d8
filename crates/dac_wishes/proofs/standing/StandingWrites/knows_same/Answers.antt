use Rattle.std.proofs.Common.{◌∙◌, sym}
use Rattle.std.proofs.lemmas.Bool.{false≢true}
use Rattle.dac_store.specs.laws.Stores.{same_context}
use Rattle.dac_wishes.proofs.standing.StandingWrites.knows_same.Goals as goal

pub returns-then-is_subset : goal.returns-then-is_subset
returns-then-is_subset c =
    rw (← c.self.view_is, ← c.other.view_is)
    (λ e. same_context _ _ (c.is_subset.ensures.0 c.if-is_subset.true) (c.is_subset-then-is_subset.ensures.0 e), λ same. c.is_subset-then-is_subset.ensures.1 (rw same (λ _ h. h)))

pub returns-else-is_subset : goal.returns-else-is_subset
returns-else-is_subset c =
    rw (← c.self.view_is, ← c.other.view_is)
    (λ e. absurd (false≢true (sym c.if-is_subset.false ∙ e)), λ same. absurd (false≢true (sym c.if-is_subset.false ∙ c.is_subset.ensures.1 (rw same (λ _ h. h)))))

use Rattle.std.proofs.Common.{◌∙◌, ap, refl, sym}
use Rattle.std.specs.Ordering.{is_eq}
use Rattle.std.proofs.lemmas.Bool.{false≢true}
use Rattle.dac_origins.specs.laws.InOrder.{tie}
use Rattle.dac_store.proofs.predicates.OtherUnheardPredicateStoreFilter.passes.Goals as goal

pub returns-then-is_eq : goal.returns-then-is_eq
returns-then-is_eq g c = (λ _ apart. absurd (apart (tie _ (ap is_eq (sym c.cmp.ensures) ∙ sym c.is_eq.ensures ∙ c.if-is_eq.true))), λ _. refl)

pub returns : goal.returns
returns g c = (
  λ e _. c.is_unheard.ensures.0 e,
  λ h. c.is_unheard.ensures.1 (h (λ at. false≢true (sym c.if-is_eq.false ∙ c.is_eq.ensures ∙ ap is_eq (c.cmp.ensures ∙ at)))),
)

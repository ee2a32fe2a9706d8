use Rattle.std.proofs.Common.{◌∙◌, sym, ap}
use Rattle.std.proofs.lemmas.Bool.{false≢true}
use Rattle.dac_store.proofs.causal_ref.is_left.Goals as goal

pub returns-then-is_empty-clause-unheard : goal.returns-then-is_empty-clause-unheard
returns-then-is_empty-clause-unheard g c =
    let laws = g.met.S.DotStore.laws in
    let nothing = laws.one_empty _ c.tells_invariant-2.ensures (sym c.is_empty-2.ensures ∙ c.if-is_empty.true) in
    λ _ x e. absurd (false≢true (sym (laws.empty_has x) ∙ sym (ap (λ s. g.S.DotStore.has s x) nothing) ∙ e))

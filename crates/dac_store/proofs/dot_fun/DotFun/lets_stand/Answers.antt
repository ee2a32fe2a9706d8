use Rattle.std.proofs.Common.{Some, refl, sym, subst, ◌∙◌}
use Rattle.std.proofs.lemmas.Bool.{false≢true}
use Rattle.dac_store.specs.AtDot.{StandsBelow}
use Rattle.dac_store.proofs.dot_fun.DotFun.lets_stand.Goals as goal

pub returns-then-not-contains : goal.returns-then-not-contains
returns-then-not-contains g c = (λ _ h. absurd (false≢true (sym c.if-not-contains.true ∙ c.contains.ensures ∙ h)), λ _. refl)

pub returns-in-Some : goal.returns-in-Some
returns-in-Some g c =
    let below = g.V.Lattice.below in
    let theirs = Some c.args.theirs.now in (
      λ e _. subst (λ v. StandsBelow below v theirs) c.in-Some.ensures (c.leq.ensures.0 e),
      λ f. c.leq.ensures.1 (subst (λ v. StandsBelow below v theirs) (sym c.in-Some.ensures) (f (sym c.contains.ensures ∙ c.if-not-contains.false))),
    )

pub returns-in-None : goal.returns-in-None
returns-in-None g c = (
  λ e. absurd (false≢true e),
  λ f. absurd (subst (λ v. StandsBelow g.V.Lattice.below v (Some c.args.theirs.now)) (sym c.in-None.ensures) (f (sym c.contains.ensures ∙ c.if-not-contains.false))),
)

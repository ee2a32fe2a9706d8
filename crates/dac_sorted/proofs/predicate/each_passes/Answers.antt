use Rattle.std.proofs.Common.{◌∙◌, refl, subst, sym}
use Rattle.std.proofs.lemmas.Bool.{false≢true}
use Rattle.std.proofs.lemmas.List.{take_all}
use Rattle.std.proofs.lemmas.List.Elements.{All-more}
use Rattle.dac_sorted.specs.Digests.{SaysAll}
use Rattle.dac_sorted.proofs.predicate.each_passes.Goals as goal

pub loop-key-preserved : goal.loop-key-preserved
loop-key-preserved g c =
    let holds = g.T.Predicate.holds c.args.predicate.now in
    All-more (λ e. holds e.0 e.1) c.args.entries.now _ _ c.loop-key-test.true c.loop-key.invariant (subst (λ e. holds e.0 e.1) c.loop-key-item.is (c.passes.ensures.0 c.if-not-passes.false))

pub returns-then-not-passes : goal.returns-then-not-passes
returns-then-not-passes g c =
    let holds = g.T.Predicate.holds c.args.predicate.now in (
      λ e. absurd (false≢true e),
      λ all. absurd (false≢true (sym c.if-not-passes.true ∙ c.passes.ensures.1 (subst (λ e. holds e.0 e.1) (sym c.loop-key-item.is) (all _ _ c.loop-key-test.true)))),
    )

pub returns : goal.returns
returns g c = (λ _. subst (SaysAll (g.T.Predicate.holds c.args.predicate.now)) (take_all _ _ c.loop-key-test.false) c.loop-key.invariant, λ _. refl)

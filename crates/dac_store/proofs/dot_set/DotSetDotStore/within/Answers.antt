use Rattle.std.proofs.Common.{◌∙◌, ◌≡◌, true, sym, refl}
use Rattle.std.proofs.lemmas.Bool.{false≢true}
use Rattle.std.proofs.lemmas.List.Elements.{All-more}
use Rattle.std.specs.FinSet as set
use Rattle.dac_origins.specs.laws.Dots.{dots_total, exact_dots}
use Rattle.dac_origins.specs.laws.InOrder.{in_order-same}
use Rattle.dac_origins.specs.laws.KeyLaws.{each_member, member_at}
use Rattle.dac_store.proofs.dot_set.DotSetDotStore.within.Goals as goal

pub loop-dot-preserved : goal.loop-dot-preserved
loop-dot-preserved c = All-more (λ x. set.contains c.args.context.now x ≡ true) _ _ _ c.loop-dot-test.true c.loop-dot.invariant (sym c.contains.ensures ∙ c.if-not-contains.false)

pub returns-then-not-contains : goal.returns-then-not-contains
returns-then-not-contains c = (
  λ e. absurd (false≢true e),
  λ held. absurd (false≢true (sym c.if-not-contains.true ∙ c.contains.ensures ∙ held _
      (member_at dots_total c.dots-dot-items.result.now c.args.self.now (rw c.dots-dot-items.ensures (in_order-same dots_total exact_dots c.args.self.now)) _ _ c.loop-dot-test.true))),
)

pub returns : goal.returns
returns c =
    (λ _. each_member dots_total exact_dots c.dots-dot-items.result.now c.args.self.now (rw c.dots-dot-items.ensures (in_order-same dots_total exact_dots c.args.self.now)) (λ x. set.contains c.args.context.now x ≡ true) _ c.loop-dot-test.false c.loop-dot.invariant, λ _. refl)

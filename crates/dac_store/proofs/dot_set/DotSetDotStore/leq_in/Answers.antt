use Rattle.std.proofs.Common.{◌∙◌, ◌≡◌, true, sym, refl}
use Rattle.std.proofs.lemmas.Bool.{false≢true}
use Rattle.std.proofs.lemmas.List.Elements.{All-more}
use Rattle.std.specs.FinSet as set
use Rattle.dac_origins.specs.laws.Dots.{dots_total, exact_dots}
use Rattle.dac_origins.specs.laws.InOrder.{in_order-same}
use Rattle.dac_origins.specs.laws.KeyLaws.{each_member, member_at}
use Rattle.dac_store.specs.DotSets.{may_stay}
use Rattle.dac_store.specs.laws.DotSets.{held_if_stays, stays_if_held}
use Rattle.dac_store.proofs.dot_set.DotSetDotStore.leq_in.Goals as goal

pub loop-dot-preserved : goal.loop-dot-preserved
loop-dot-preserved c = All-more (λ x. may_stay c.args.self.now c.args.heard.now x ≡ true) _ _ _ c.loop-dot-test.true c.loop-dot.invariant (sym c.lets_stay.ensures ∙ c.if-not-lets_stay.false)

pub returns-then-not-lets_stay : goal.returns-then-not-lets_stay
returns-then-not-lets_stay c = (
  λ e. absurd (false≢true e),
  λ below. absurd (false≢true (sym c.if-not-lets_stay.true ∙ c.lets_stay.ensures ∙ stays_if_held _ _ (below _
      (member_at dots_total c.dots-dot-items.result.now c.args.other.now (rw c.dots-dot-items.ensures (in_order-same dots_total exact_dots c.args.other.now)) _ _ c.loop-dot-test.true)))),
)

pub returns : goal.returns
returns c =
    let all = each_member dots_total exact_dots c.dots-dot-items.result.now c.args.other.now (rw c.dots-dot-items.ensures (in_order-same dots_total exact_dots c.args.other.now)) (λ x. may_stay c.args.self.now c.args.heard.now x ≡ true) _ c.loop-dot-test.false c.loop-dot.invariant in
    (λ _ x h k. held_if_stays (set.contains c.args.self.now x) (set.contains c.args.heard.now x) (all x h) k, λ _. refl)

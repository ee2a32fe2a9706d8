use Rattle.std.proofs.Common.{sym, ap, subst, ◌∙◌}
use Rattle.std.specs.FinSet as set
use Rattle.dac_origins.specs.Dots.{IsSubset}
use Rattle.dac_state.proofs.Covered.{one_among}
use Rattle.dac_state.proofs.covering.holds_dot.Goals as goal

pub returns : goal.returns
returns c =
    let o = c.args.op.now in
    let heard = c.args.heard.now in
    let is = c.contains.ensures ∙ ap (set.contains heard) c.dot.ensures in
    let law = one_among o.dot heard in
    let one = c.delta_is_meaning.ensures.heard o in
    (λ e. subst (λ x. IsSubset x heard) one (law.0 (sym is ∙ e)), λ f. is ∙ law.1 (subst (λ x. IsSubset x heard) (sym one) f))

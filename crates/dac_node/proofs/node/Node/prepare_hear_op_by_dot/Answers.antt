use Rattle.std.proofs.Common.{Option, sym, subst}
use Rattle.dac_node.proofs.Common.{IfSome, option_map, HearOp, NodeValue, RunningValue, state_of, Fits, Prepared}
use Rattle.dac_node.specs.ByDots.{IsBelowByDot}
use Rattle.dac_node.proofs.Effects.{effect_prepared, hear_op_fits}
use Rattle.dac_node.proofs.node.Node.prepare_hear_op_by_dot.Goals as goal

pub returns-clause-ok : goal.returns-clause-ok
returns-clause-ok c = λ t me.
    let e = HearOp c.args.operation.now in
    let change = c.in_ok-hear_op.field-0 in
    let last = c.self.inside.last in
    subst (λ (v : NodeValue). Prepared t me v e change) c.self.view_is
    (subst (λ running. Prepared t me (record { last = last; running = running }) e change) (sym c.in-Some.is) (effect_prepared t me last c.in-Some.running e change (sym c.in_default-refusal_to_hear_op.ensures) c.tells_invariant.ensures.newest c.tells_invariant.ensures.state (c.in_ok-hear_op.ensures.effect t)))

pub returns-clause-fits : goal.returns-clause-fits
returns-clause-fits c =
    let change = c.in_ok-hear_op.field-0 in
    let last = c.self.inside.last in
    subst (λ (v : NodeValue). Fits v change) c.self.view_is
    (subst (λ running. Fits (record { last = last; running = running }) change) (sym c.in-Some.is) (hear_op_fits last c.in-Some.running c.args.operation.now change (sym c.in_default-refusal_to_hear_op.ensures) c.tells_invariant.ensures.countable c.in_ok-hear_op.ensures.after))

pub covers_by_dot-is_known-requires : goal.covers_by_dot-is_known-requires
covers_by_dot-is_known-requires c =
    subst (IsBelowByDot c.args.operation.now) (sym c.state.ensures)
    (subst (λ (running : Option RunningValue). IfSome (option_map (λ (r : RunningValue). r.state) running) (IsBelowByDot c.args.operation.now)) c.in-Some.is
    (subst (λ (v : NodeValue). IfSome (state_of v) (IsBelowByDot c.args.operation.now)) (sym c.self.view_is) c.requires))

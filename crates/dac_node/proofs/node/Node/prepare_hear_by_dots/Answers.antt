use Rattle.std.proofs.Common.{Option, sym, subst}
use Rattle.dac_node.proofs.Common.{IfSome, option_map, content_of, Hear, NodeValue, RunningValue, state_of, Fits, Prepared}
use Rattle.dac_node.specs.ByDots.{IsBelowByDots}
use Rattle.dac_node.proofs.Effects.{effect_prepared, effect_fits}
use Rattle.dac_node.proofs.node.Node.prepare_hear_by_dots.Goals as goal

pub returns-clause-ok : goal.returns-clause-ok
returns-clause-ok c = λ me.
    let e = Hear c.args.message.now in
    let change = c.in_ok-hear.field-0 in
    let last = c.self.inside.last in
    subst (λ (v : NodeValue). Prepared c.args.config.now me v e change) c.self.view_is
    (subst (λ running. Prepared c.args.config.now me (record { last = last; running = running }) e change) (sym c.in-Some.is) (effect_prepared c.args.config.now me last c.in-Some.running e change (sym c.in_default-refusal_to_hear.ensures) c.tells_invariant.ensures.newest c.tells_invariant.ensures.state (c.in_ok-hear.ensures)))

pub returns-clause-fits : goal.returns-clause-fits
returns-clause-fits c =
    let change = c.in_ok-hear.field-0 in
    let last = c.self.inside.last in
    subst (λ (v : NodeValue). Fits v change) c.self.view_is
    (subst (λ running. Fits (record { last = last; running = running }) change) (sym c.in-Some.is) (effect_fits c.args.config.now last c.in-Some.running (Hear c.args.message.now) change (sym c.in_default-refusal_to_hear.ensures) c.tells_invariant.ensures.countable c.in_ok-hear.ensures))

pub knows_by_dots-is_known-requires : goal.knows_by_dots-is_known-requires
knows_by_dots-is_known-requires c =
    subst (λ (running : Option RunningValue). IfSome (option_map (λ (r : RunningValue). r.state) running) (IsBelowByDots (content_of c.args.message.now.body))) c.in-Some.is
    (subst (λ (v : NodeValue). IfSome (state_of v) (IsBelowByDots (content_of c.args.message.now.body))) (sym c.self.view_is) c.requires)

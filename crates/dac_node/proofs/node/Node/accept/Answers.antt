use Rattle.std.proofs.Common.{◌≡◌, None, sym, subst}
use Rattle.dac_node.proofs.Common.{NodeValue, refusal_by, Fits, Prepared}
use Rattle.dac_model_node.specs.EventRefusals.{refusal_of}
use Rattle.dac_node.proofs.Effects.{effect_prepared, effect_fits}
use Rattle.dac_node.proofs.node.Node.accept.Goals as goal

pub returns-in_ok-of-in-Some-clause-ok : goal.returns-in_ok-of-in-Some-clause-ok
returns-in_ok-of-in-Some-clause-ok c =
    let t = c.args.config.now in
    let e = c.args.event.now in
    let change = c.in_ok-of-in-Some.field-0 in
    let last = c.self.inside.last in
    let none = subst (λ running. refusal_by t last running e ≡ None) c.in-Some.is (subst (λ (v : NodeValue). refusal_of t v e ≡ None) (sym c.self.view_is) c.requires) in
    subst (λ (v : NodeValue). Prepared t c.args.self_id v e change) c.self.view_is
    (subst (λ running. Prepared t c.args.self_id (record { last = last; running = running }) e change) (sym c.in-Some.is) (effect_prepared t c.args.self_id last c.in-Some.running e change none c.tells_invariant.ensures.newest c.tells_invariant.ensures.state c.in_ok-of-in-Some.ensures.effect))

pub returns-in_ok-of-in-Some-clause-fits : goal.returns-in_ok-of-in-Some-clause-fits
returns-in_ok-of-in-Some-clause-fits c =
    let t = c.args.config.now in
    let e = c.args.event.now in
    let change = c.in_ok-of-in-Some.field-0 in
    let last = c.self.inside.last in
    let none = subst (λ running. refusal_by t last running e ≡ None) c.in-Some.is (subst (λ (v : NodeValue). refusal_of t v e ≡ None) (sym c.self.view_is) c.requires) in
    subst (λ (v : NodeValue). Fits v change) c.self.view_is
    (subst (λ running. Fits (record { last = last; running = running }) change) (sym c.in-Some.is) (effect_fits t last c.in-Some.running e change none c.tells_invariant.ensures.countable c.in_ok-of-in-Some.ensures.effect))

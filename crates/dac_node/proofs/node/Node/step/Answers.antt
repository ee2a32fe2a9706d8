use Rattle.std.proofs.Common.{Ok, Err, sym, ap, subst, ◌∙◌}
use Rattle.dac_node.proofs.Common.{unwrap_or, Reply, NodeValue}
use Rattle.std.proofs.lemmas.Result.{err_from_is_err_and}
use Rattle.dac_events.specs.declared.refusal.Refusal.TheVariants.{NoMemory}
use Rattle.dac_model_node.specs.Step.{Steps, IsShown}
use Rattle.dac_model_node.specs.Hearing.{HearsExactly}
use Rattle.dac_model_node.specs.Writing.{Writes}
use Rattle.dac_model_node.specs.Keeping.{Keeps}
use Rattle.dac_model_node.specs.Effect.{HasEffect}
use Rattle.dac_model_node.specs.Shipping.{ShipsSo}
use Rattle.dac_model_node.specs.Refused.{IsAnsweredBy, IsFree}
use Rattle.dac_model_node.specs.laws.Steps.{steps, answered_steps, stays_shown}
use Rattle.dac_model_node.specs.laws.Writing.{writes}
use Rattle.dac_model_node.specs.laws.Keeping.{keeps}
use Rattle.dac_model_node.specs.laws.Effect.{takes_effect}
use Rattle.dac_model_node.specs.laws.Heard.{hears_exactly}
use Rattle.dac_model_node.specs.laws.Shipping.{ships_so}
use Rattle.dac_model_node.specs.laws.Refused.{answered_is, free_is}
use Rattle.dac_node.specs.Changes.{changed}
use Rattle.dac_node.proofs.node.Node.step.Goals as goal

pub returns-clause-ok : goal.returns-clause-ok
returns-clause-ok c =
    let t = c.args.config.now in
    let old = c.warm.new.self in
    let change = c.in_ok-change.change in
    subst (λ (x : NodeValue × (NodeValue × Reply)). Steps t c.args.self_id x.0 c.args.event x.1.0 (Ok x.1.1)) (λ i. (c.warm.ensures i, (sym c.in_ok-reply.ensures.new i, sym c.in_ok-reply.ensures.reply i)))
    (steps t c.args.self_id old c.args.event (changed old change) change.reply c.in_ok-change.ensures.ok)

pub returns-clause-ships : goal.returns-clause-ships
returns-clause-ships c =
    let t = c.args.config.now in
    let old = c.warm.new.self in
    let change = c.in_ok-change.change in
    subst (λ (x : NodeValue × Reply). ShipsSo t x.0 c.args.event x.1) (λ i. (c.warm.ensures i, sym c.in_ok-reply.ensures.reply i)) (ships_so t c.args.self_id old c.args.event (changed old change) change.reply c.in_ok-change.ensures.ok)

pub returns-clause-keeps : goal.returns-clause-keeps
returns-clause-keeps c =
    let t = c.args.config.now in
    let me = c.args.self_id in
    let old = c.warm.new.self in
    let p = c.in_ok-change.ensures.ok in
    subst (λ (x : NodeValue × (NodeValue × Reply)). Keeps t me x.0 c.args.event x.1.1 x.1.0) (λ i. (c.warm.ensures i, (sym (c.in_ok-reply.ensures.new ∙ p.left) i, sym (c.in_ok-reply.ensures.reply ∙ p.reply) i)))
    (keeps t me old.last old.running p.noted c.args.event p.accepted p.newest p.noting)

pub returns-clause-effect : goal.returns-clause-effect
returns-clause-effect c =
    let t = c.args.config.now in
    let me = c.args.self_id in
    let old = c.warm.new.self in
    let p = c.in_ok-change.ensures.ok in
    subst (λ (x : NodeValue × (NodeValue × Reply)). HasEffect t x.0 c.args.event x.1.1 x.1.0) (λ i. (c.warm.ensures i, (sym (c.in_ok-reply.ensures.new ∙ p.left) i, sym (c.in_ok-reply.ensures.reply ∙ p.reply) i)))
    (takes_effect t me old.last old.running p.noted c.args.event p.accepted p.state)

pub returns-clause-heard : goal.returns-clause-heard
returns-clause-heard c =
    let old = c.warm.new.self in
    let p = c.in_ok-change.ensures.ok in
    subst (λ (x : NodeValue × (NodeValue × Reply)). HearsExactly x.0 c.args.event x.1.1 x.1.0) (λ i. (c.warm.ensures i, (sym (c.in_ok-reply.ensures.new ∙ p.left) i, sym (c.in_ok-reply.ensures.reply ∙ p.reply) i)))
    (hears_exactly c.args.config.now c.args.self_id old.last old.running p.noted c.args.event p.accepted)

pub returns-clause-cases : goal.returns-clause-cases
returns-clause-cases c =
    subst (λ (old : NodeValue). IsFree c.args.config.now old c.args.event) c.warm.ensures (free_is c.args.config.now c.warm.new.self c.args.event c.in_ok-change.ensures.ok.accepted)

pub returns-in_err-change-clause-cases : goal.returns-in_err-change-clause-cases
returns-in_err-change-clause-cases c =
    let t = c.args.config.now in
    let p = err_from_is_err_and c.from_residual.result c.from_residual.ensures.1 in
    let why = c.in_err-change.field-0.0 in
    rw (p.1, p.2) (subst (λ (old : NodeValue). IsAnsweredBy t old c.args.event why) c.warm.ensures (answered_is t c.warm.new.self c.args.event why c.in_err-change.ensures.err))

pub returns-clause-shown : goal.returns-clause-shown
returns-clause-shown c =
    let t = c.args.config.now in
    let old = c.warm.new.self in
    let change = c.in_ok-change.change in
    subst (λ (x : NodeValue × NodeValue). IsShown t x.0 → IsShown t x.1) (λ i. (c.warm.ensures i, sym c.in_ok-reply.ensures.new i)) (stays_shown t c.args.self_id old c.args.event (changed old change) change.reply c.in_ok-change.ensures.ok)

pub returns-in_err-change-clause-refused : goal.returns-in_err-change-clause-refused
returns-in_err-change-clause-refused c =
    let t = c.args.config.now in
    let p = err_from_is_err_and c.from_residual.result c.from_residual.ensures.1 in
    let why = c.in_err-change.field-0.0 in
    let stepped = answered_steps t c.args.self_id c.warm.new.self c.args.event why c.in_err-change.ensures.err in
    rw (p.1, p.2) (λ other. subst (λ (old : NodeValue). Steps t c.args.self_id old c.args.event c.warm.new.self (Err why)) c.warm.ensures (stepped other))

pub returns-clause-writes : goal.returns-clause-writes
returns-clause-writes c =
    let t = c.args.config.now in
    let old = c.warm.new.self in
    let p = c.in_ok-change.ensures.ok in
    subst (λ (x : NodeValue × Reply). Writes t c.args.self_id x.0 c.args.event x.1) (λ i. (c.warm.ensures i, sym (c.in_ok-reply.ensures.reply ∙ p.reply) i)) (writes t c.args.self_id old.last old.running p.noted c.args.event p.accepted p.noting)

pub returns-in_err-reply-clause-cases : goal.returns-in_err-reply-clause-cases
returns-in_err-reply-clause-cases c =
    let t = c.args.config.now in
    let old = c.warm.new.self in
    let p = err_from_is_err_and c.from_residual-in_err-reply.result c.from_residual-in_err-reply.ensures.1 in
    rw (p.1, p.2) (subst (λ (old : NodeValue). IsAnsweredBy t old c.args.event NoMemory) c.warm.ensures (answered_is t old c.args.event NoMemory (ap (λ why. unwrap_or why NoMemory) (sym c.in_ok-change.ensures.ok.accepted))))

use Rattle.std.proofs.Common.{subst}
use Rattle.dac_sites.specs.laws.Common.{Event, NodeValue, GoesOn}
use Rattle.dac_sites.proofs.Bringing.{goes_on}
use Rattle.dac_sites.proofs.replaying.go_on.Goals as goal

pub returns : goal.returns
returns c =
    subst (λ (x : NodeValue × Event). GoesOn c.args.config.now c.args.me x.0 x.1 c.step-answer.new.self) (λ i. (c.warm.ensures i, c.in_ok-event.ensures i))
    (goes_on c.args.config.now c.args.me c.warm.new.self c.in_ok-event.event c.step-answer.new.self c.step-answer.result c.step-answer.ensures.ok c.step-answer.ensures.refused c.in_ok-is_answered.ensures.ok)

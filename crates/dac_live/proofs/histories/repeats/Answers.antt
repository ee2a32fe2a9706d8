use Rattle.std.proofs.Common.{subst}
use Rattle.dac_live.proofs.Common.{NodeValue, Steps}
use Rattle.dac_live.proofs.Repeated.{repeated}
use Rattle.dac_live.proofs.histories.repeats.Goals as goal

pub returns : goal.returns
returns c =
    λ yes. subst (λ (v : NodeValue). Steps c.args.config.now c.args.me v c.args.one.now.event c.step-answer.new.self c.args.one.now.answer) c.warm.ensures
    (repeated c.args.config.now c.args.me c.warm.new.self c.step-answer.new.self c.in_ok-event.event c.args.one.now.event c.step-answer.result c.args.one.now.answer
    c.step-answer.ensures.ok c.step-answer.ensures.refused c.in_ok-is_answered.ensures.ok c.in_ok-event.ensures (c.same_answer.ensures.0 yes))

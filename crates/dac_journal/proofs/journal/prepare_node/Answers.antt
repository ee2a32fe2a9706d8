use Rattle.std.proofs.Common.{Ok, sym, subst}
use Rattle.dac_messages.specs.declared.reply.Reply.{Reply}
use Rattle.dac_model_world.specs.Step.{Steps}
use Rattle.dac_model_world.specs.laws.Steps.{steps, answered_steps}
use Rattle.dac_node.specs.Changes.{changed}
use Rattle.dac_journal.proofs.journal.prepare_node.Goals as goal

pub returns-in_ok-reply-in-Ok-clause-steps : goal.returns-in_ok-reply-in-Ok-clause-steps
returns-in_ok-reply-in-Ok-clause-steps c =
    let t = c.args.config.now in
    let old = c.args.node.now in
    let change = c.in-Ok.change in
    subst (λ (r : Reply). Steps t c.args.me old c.args.event.now (changed old change) (Ok r)) (sym c.in_ok-reply-in-Ok.ensures.0)
    (steps t c.args.me old c.args.event.now (changed old change) change.reply c.in-Ok.ensures.ok)

pub returns-else-is_no_memory-clause-steps : goal.returns-else-is_no_memory-clause-steps
returns-else-is_no_memory-clause-steps c = answered_steps c.args.config.now c.args.me c.args.node.now c.args.event.now c.in-Err.why c.in-Err.ensures.err (c.is_no_memory.ensures.no c.if-is_no_memory.false)

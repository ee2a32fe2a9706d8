use Rattle.std.proofs.Common.{Ok, Err, sym, subst}
use Rattle.dac_weave.specs.laws.Common.{Reply, NodeValue, Steps, Repeats}
use Rattle.dac_journal.specs.laws.Steps.{steps, answered_steps}
use Rattle.dac_journal.specs.Changes.{changed}
use Rattle.dac_weave.proofs.Replays.{repeated}
use Rattle.dac_weave.proofs.replay.repeat.Goals as goal

pub returns-in_ok-reply-in-Ok : goal.returns-in_ok-reply-in-Ok
returns-in_ok-reply-in-Ok c =
    let t = c.args.config.now in
    let old = c.warm.new.self in
    let r = c.args.entry.now in
    let change = c.in-Ok.change in
    let stepped : Steps t c.args.me old r.event c.apply.new.self (Ok c.in_ok-reply-in-Ok.reply) =
    subst (λ (x : NodeValue × Reply). Steps t c.args.me old r.event x.0 (Ok x.1)) (λ i. (sym c.in_ok-reply-in-Ok.ensures.new i, sym c.in_ok-reply-in-Ok.ensures.reply i))
    (steps t c.args.me old r.event (changed old change) change.reply c.in-Ok.ensures.ok) in
    subst (λ (v : NodeValue). Repeats t c.args.me v r c.apply.new.self c.is_reply.result) c.warm.ensures
    (repeated t c.args.me old c.apply.new.self r c.is_reply.result (Ok c.in_ok-reply-in-Ok.reply) stepped c.is_reply.ensures)

pub returns-else-is_no_memory : goal.returns-else-is_no_memory
returns-else-is_no_memory c =
    let t = c.args.config.now in
    let old = c.warm.new.self in
    let r = c.args.entry.now in
    subst (λ (v : NodeValue). Repeats t c.args.me v r old c.is_refusal.result) c.warm.ensures
    (repeated t c.args.me old old r c.is_refusal.result (Err c.in-Err.why) (answered_steps t c.args.me old r.event c.in-Err.why c.in-Err.ensures.err (c.is_no_memory.ensures.no c.if-is_no_memory.false)) c.is_refusal.ensures)

use Rattle.std.proofs.Common.{not, ◌∙◌}
use Rattle.dac_node.proofs.Common.{Heard, Notes}
use Rattle.dac_node.proofs.Effects.{message_effect}
use Rattle.dac_node.proofs.change.Change.hear.Goals as goal

pub returns : goal.returns
returns c =
    message_effect c.args.config.now c.args.last c.args.running.now c.args.message.now c.in_ok-change.change
    (c.in_ok-change.ensures ∙ (λ i. record { last = c.args.last; after = Notes (c.in_ok-notes.ensures i); reply = Heard (not (c.requires i)) }))

use Rattle.std.proofs.Common.{None, [], refl, ◌∙◌}
use Rattle.dac_node.proofs.Common.{Notes}
use Rattle.dac_messages.specs.declared.event.Event.TheVariants.{Ship}
use Rattle.dac_messages.specs.declared.reply.Reply.TheVariants.{Shipped}
use Rattle.dac_peers.specs.Peers.{shipped_to}
use Rattle.dac_model_node.specs.Transitions.{message_of}
use Rattle.dac_node.proofs.Effects.{noting_effect}
use Rattle.dac_node.proofs.change.Change.ship.Goals as goal

pub returns : goal.returns
returns c = λ t.
    let r = c.args.running.now in
    noting_effect t c.args.last r (Ship c.args.to) (Shipped (message_of r c.args.to)) (shipped_to r.peers c.args.to) None [] c.in_ok-change.change refl refl
    (c.in_ok-change.ensures ∙ (λ i. record { last = c.args.last; after = Notes (c.in_ok-notes.ensures i); reply = Shipped (c.in_ok-message.ensures i) }))

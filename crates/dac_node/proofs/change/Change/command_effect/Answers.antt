use Rattle.std.proofs.Common.{Some, [], ◌∷◌, refl, ap, ◌∙◌}
use Rattle.dac_node.proofs.Common.{Operation, meaning_of, Notes, noting}
use Rattle.dac_messages.specs.declared.event.Event.TheVariants.{Command as Commanded}
use Rattle.dac_messages.specs.declared.reply.Reply.TheVariants.{Issued}
use Rattle.dac_model_node.specs.dac_commands.Commands.{next_operation, act_of}
use Rattle.dac_model_node.specs.laws.Numbers.{obeyed}
use Rattle.dac_node.proofs.Effects.{noting_effect}
use Rattle.dac_node.proofs.change.Change.command_effect.Goals as goal

pub command-requires : goal.command-requires
command-requires c = (obeyed c.args.config.now c.args.running.now c.args.command c.requires).0

pub returns : goal.returns
returns c =
    let r = c.args.running.now in
    let delta = λ (o : Operation). meaning_of (o ∷ []) in
    let o = next_operation r.state r.origin (act_of c.args.config.now r.state c.args.command) in
    let is = c.in_ok-notes.ensures.operation in
    let notes = c.in_ok-notes.ensures.notes ∙ ap (λ o. noting r.peers (Some (delta o))) is in
    noting_effect c.args.config.now c.args.last r (Commanded c.args.command) (Issued o) r.peers (Some (delta o)) (delta o ∷ []) c.in_ok-change.change refl refl
    (c.in_ok-change.ensures ∙ (λ i. record { last = c.args.last; after = Notes (notes i); reply = Issued (is i) }))

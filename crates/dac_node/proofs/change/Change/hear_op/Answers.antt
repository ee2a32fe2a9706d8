use Rattle.std.proofs.Common.{not, [], ◌∷◌, refl, ◌∙◌}
use Rattle.dac_node.proofs.Common.{meaning_of, is_below, HearOp, Heard, brings, Notes, news}
use Rattle.dac_node.proofs.Effects.{noting_effect, brought}
use Rattle.dac_node.proofs.change.Change.hear_op.Goals as goal

pub returns-clause-effect : goal.returns-clause-effect
returns-clause-effect c = λ t.
    let r = c.args.running.now in
    let body = meaning_of (c.args.operation.now ∷ []) in
    noting_effect t c.args.last r (HearOp c.args.operation.now) (Heard (not (is_below body r.state))) r.peers (news r.state body) (brings r.state body) c.in_ok-change.change refl (brought r.state body)
    (c.in_ok-change.ensures ∙ (λ i. record { last = c.args.last; after = Notes (c.in_ok-notes.ensures i); reply = Heard (not (c.requires i)) }))

use Rattle.std.proofs.Common.{◌∙◌, [], ◌∷◌, ◌++◌, map, sym, ap, ap₂}
use Rattle.dac_status.proofs.Common.{map-append, label_text}
use Rattle.dac_status.proofs.Places.{node_numbered, listed_more}
use Rattle.dac_status.proofs.labels.Labels.of.Goals as goal

pub loop-number-preserved : goal.loop-number-preserved
loop-number-preserved c =
    ap (map (λ label. label.items)) c.in_ok-push.ensures.items
    ∙ map-append (λ label. label.items) c.loop-number.labels.items (c.in_ok-label.field-0 ∷ [])
    ∙ ap₂ (λ labels label. labels ++ label ∷ []) c.loop-number.invariant c.in_ok-label.ensures
    ∙ sym (listed_more node_numbered (label_text c.args.config.now) c.loop-number.number)

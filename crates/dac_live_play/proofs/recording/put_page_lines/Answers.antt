use Rattle.std.proofs.Common.{◌++◌, [], ◌∷◌, ap, ◌∙◌, append_assoc}
use Rattle.dac_live_play.proofs.Common.{page_line}
use Rattle.dac_live_play.proofs.Lines.{put_more}
use Rattle.dac_live_play.proofs.recording.put_page_lines.Goals as goal

pub loop-number-preserved : goal.loop-number-preserved
loop-number-preserved c =
    put_more (page_line c.args.config.now c.args.placeholder.now) c.loop-number.number c.args.text.now.items c.loop-number.text.items _ c.loop-number.invariant
    (c.in_ok-push.ensures.items ∙ ap (λ t. t ++ 10 ∷ []) c.in_ok-put_at.ensures ∙ append_assoc c.loop-number.text.items _ (10 ∷ []))

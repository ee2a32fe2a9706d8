use Rattle.dac_live_play.proofs.Common.{callers_text}
use Rattle.dac_live_play.proofs.Lines.{put_more}
use Rattle.dac_live_play.proofs.printing.put_asked.Goals as goal

pub loop-number-preserved : goal.loop-number-preserved
loop-number-preserved c =
    put_more (callers_text c.args.config.now c.args.lines.now c.args.answers.now) c.loop-number.number c.args.text.now.items c.loop-number.text.items _ c.loop-number.invariant c.in_ok-put_node.ensures

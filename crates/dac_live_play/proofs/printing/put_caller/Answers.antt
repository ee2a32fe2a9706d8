use Rattle.std.proofs.Common.{arith}
use Rattle.dac_live_play.proofs.Common.{own_text}
use Rattle.dac_live_play.proofs.Placing.{all_placed}
use Rattle.dac_live_play.proofs.printing.put_caller.Goals as goal

pub returns : goal.returns
returns c =
    all_placed (λ place line answer. own_text c.args.config.now c.args.node c.args.caller line answer) c.args.lines.now c.args.answers.now c.loop-place.place _ c.loop-place.text.items
    (omega (arith, c.min-place-end.ensures, c.loop-place-test.false)) c.loop-place.invariant

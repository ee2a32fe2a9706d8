use Rattle.std.proofs.Common.{◌∙◌, sym, arith}
use Rattle.dac_status.proofs.Staying.{upheld_is}
use Rattle.dac_status.proofs.kept.upheld_at.Goals as goal

pub returns-then-is_ok : goal.returns-then-is_ok
returns-then-is_ok c = λ s app claimed are also.
    let inside = c.if-holder-nodes.false in
    let count = c.nodes.ensures.count in
    upheld_is c.args.config.now s app c.in_ok-holder.field-0 c.args.lives.now c.args.marks.now c.in_ok-inc.inc (sym c.in_ok-holder.was ∙ claimed) are also
    (omega (arith, inside, count)) (sym c.live_in.ensures ∙ c.in_ok-inc.was) c.if-inc-holder.true (sym c.is_ok.ensures ∙ c.if-is_ok.true)

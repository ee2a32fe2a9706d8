use Rattle.std.proofs.Common.{sym, ap, ◌∙◌}
use Rattle.dac_play.proofs.Common.{state_at}
use Rattle.dac_play.proofs.Shares.{having_with, having_without}
use Rattle.dac_play.proofs.sharing.running.Goals as goal
use Rattle.dac_play.proofs.sharing.running.Goals.{then-runs+in_ok-push, else-runs}

pub loop-number-preserved : goal.loop-number-preserved
loop-number-preserved c =
    elim c.if-runs.branch [
      | then-runs+in_ok-push w ↦ ap (λ v. v.items) w.nodes-is ∙ w.in_ok-push.ensures.items ∙ having_with (state_at c.args.world.now) c.loop-number.number c.loop-number.nodes.items (sym c.runs.ensures ∙ w.if-runs.true) c.loop-number.invariant
      | else-runs w ↦ ap (λ v. v.items) w.nodes-is ∙ having_without (state_at c.args.world.now) c.loop-number.number c.loop-number.nodes.items (sym c.runs.ensures ∙ w.if-runs.false) c.loop-number.invariant
    ]

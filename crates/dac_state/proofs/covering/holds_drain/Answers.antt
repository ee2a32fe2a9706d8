use Rattle.std.proofs.Common.{◌≡◌, sym, ap, subst, ◌∙◌}
use Rattle.dac_wishes.specs.DrainsValue.{AreDrainsBelow}
use Rattle.dac_wishes.specs.DrainMeaning.{drain_delta}
use Rattle.dac_wishes.specs.Covering.{drain_act}
use Rattle.dac_operations.specs.Operations.{over_list}
use Rattle.dac_meaning.specs.Meaning.{drain_vote}
use Rattle.dac_state.proofs.Covered.{drain_seen}
use Rattle.dac_state.proofs.covering.holds_drain.Goals as goal

pub returns : goal.returns
returns c =
    let o = c.args.op.now in
    let asked : drain_delta c.dot.result (drain_act c.drain_in.result c.over.result.now) ≡ drain_delta o.dot (drain_act (drain_vote o.act) (over_list o.act)) = λ i. drain_delta (c.dot.ensures i) (drain_act ((c.drain_in.ensures ∙ ap drain_vote c.act.ensures) i) ((c.over.ensures ∙ ap over_list c.act-2.ensures) i)) in
    let is = asked ∙ (ap (drain_delta o.dot) (drain_seen o c.tells_invariant.ensures) ∙ c.delta_is_meaning.ensures.drains o) in
    (λ e. subst (λ v. AreDrainsBelow v c.args.drains.now) is (c.covers.ensures.0 e), λ below. c.covers.ensures.1 (subst (λ v. AreDrainsBelow v c.args.drains.now) (sym is) below))

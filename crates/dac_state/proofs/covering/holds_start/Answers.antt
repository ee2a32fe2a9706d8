use Rattle.std.proofs.Common.{◌≡◌, sym, ap, subst, ◌∙◌}
use Rattle.dac_wishes.specs.WishesValue.{AreWishesBelow}
use Rattle.dac_wishes.specs.WishMeaning.{wish_delta}
use Rattle.dac_wishes.specs.Covering.{wish_act}
use Rattle.dac_operations.specs.Operations.{over_list}
use Rattle.dac_state.specs.Covering.{started_in}
use Rattle.dac_state.proofs.Covered.{wish_seen}
use Rattle.dac_state.proofs.covering.holds_start.Goals as goal

pub returns : goal.returns
returns c =
    let o = c.args.op.now in
    let asked : wish_delta c.dot.result (wish_act c.started_in.result c.over.result.now) ≡ wish_delta o.dot (wish_act (started_in o.act) (over_list o.act)) = λ i. wish_delta (c.dot.ensures i) (wish_act ((c.started_in.ensures ∙ ap started_in c.act.ensures) i) ((c.over.ensures ∙ ap over_list c.act-2.ensures) i)) in
    let is = asked ∙ (ap (wish_delta o.dot) (wish_seen o c.tells_invariant.ensures) ∙ c.delta_is_meaning.ensures.starts o) in
    (λ e. subst (λ v. AreWishesBelow v c.args.wishes.now) is (c.covers.ensures.0 e), λ below. c.covers.ensures.1 (subst (λ v. AreWishesBelow v c.args.wishes.now) (sym is) below))

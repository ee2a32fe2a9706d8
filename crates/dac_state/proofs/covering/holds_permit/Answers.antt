use Rattle.std.proofs.Common.{◌≡◌, sym, ap, subst, ◌∙◌}
use Rattle.dac_wishes.specs.PermissionsValue.{IsPermissionsBelow}
use Rattle.dac_wishes.specs.PermitMeaning.{permit_delta}
use Rattle.dac_wishes.specs.Covering.{permit_act}
use Rattle.dac_operations.specs.Operations.{over_list}
use Rattle.dac_meaning.specs.Meaning.{permit_vote}
use Rattle.dac_state.proofs.Covered.{permit_seen}
use Rattle.dac_state.proofs.covering.holds_permit.Goals as goal

pub returns : goal.returns
returns c =
    let o = c.args.op.now in
    let asked : permit_delta c.dot.result (permit_act c.permit_in.result c.over.result.now) ≡ permit_delta o.dot (permit_act (permit_vote o.act) (over_list o.act)) = λ i. permit_delta (c.dot.ensures i) (permit_act ((c.permit_in.ensures ∙ ap permit_vote c.act.ensures) i) ((c.over.ensures ∙ ap over_list c.act-2.ensures) i)) in
    let is = asked ∙ (ap (permit_delta o.dot) (permit_seen o c.tells_invariant.ensures) ∙ c.delta_is_meaning.ensures.permits o) in
    (λ e. subst (λ v. IsPermissionsBelow v c.args.permissions.now) is (c.covers.ensures.0 e), λ below. c.covers.ensures.1 (subst (λ v. IsPermissionsBelow v c.args.permissions.now) (sym is) below))

use Rattle.std.proofs.Common.{[], ◌∷◌, ◌∙◌, ap}
use Rattle.dac_wishes.specs.WishMeaning.{wish_delta}
use Rattle.dac_wishes.specs.PermitMeaning.{permit_delta}
use Rattle.dac_wishes.specs.DrainMeaning.{drain_delta}
use Rattle.dac_meaning.specs.Meaning.{meaning_of}
use Rattle.dac_state.proofs.Covered.{permit_seen, wish_seen, drain_seen}
use Rattle.dac_state.proofs.Making.{standing_is}
use Rattle.dac_state.proofs.delta.standing_by.Goals as goal

pub returns : goal.returns
returns c =
    let o = c.args.op.now in
    let sound = c.tells_invariant.ensures in
    let made = rw (c.dot.ensures, c.over.ensures, c.permit_in.ensures, c.started_in.ensures, c.drain_in.ensures, c.act-act.ensures) at c.in_ok-standing.ensures in
    standing_is (meaning_of (o ∷ []))
    (made.permits ∙ ap (permit_delta o.dot) (permit_seen o sound) ∙ c.delta_is_meaning.ensures.permits o)
    (made.starts ∙ ap (wish_delta o.dot) (wish_seen o sound) ∙ c.delta_is_meaning.ensures.starts o)
    (made.drains ∙ ap (drain_delta o.dot) (drain_seen o sound) ∙ c.delta_is_meaning.ensures.drains o)

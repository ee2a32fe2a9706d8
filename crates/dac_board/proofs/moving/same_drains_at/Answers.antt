use Rattle.std.proofs.Common.{sym, ap, ap₂, ◌∙◌}
use Rattle.std.specs.Cmp.Lexicographic.{pointwise}
use Rattle.dac_wishes.specs.DrainsValue.{DrainsValue, origin, drains_at}
use Rattle.dac_board.specs.Touched.{same_vote}
use Rattle.dac_board.proofs.Untouched.{votes_compared, same_votes}
use Rattle.dac_board.proofs.moving.same_drains_at.Goals as goal

pub returns : goal.returns
returns c = λ e.
    let at = origin c.args.node c.args.inc in
    let old = c.args.old.now in
    let new = c.args.new.now in
    (same_votes (drains_at at old.drains) (drains_at at new.drains)).0
    (sym (c.eq.ensures ∙ votes_compared c.dots.result.now c.dots-2.result.now ∙ ap₂ (pointwise same_vote)
    (c.dots.ensures ∙ ap (λ (v : DrainsValue). drains_at at v.standing) c.drains.ensures)
    (c.dots-2.ensures ∙ ap (λ (v : DrainsValue). drains_at at v.standing) c.drains-2.ensures)) ∙ e)

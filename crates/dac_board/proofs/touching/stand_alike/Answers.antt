use Rattle.std.proofs.Common.{◌≡◌, true, ◌&&◌, sym, ap, ap₂, ◌∙◌}
use Rattle.std.specs.Cmp.Lexicographic.{pointwise}
use Rattle.dac_origins.specs.InOrder.{in_order}
use Rattle.dac_store.specs.SameDots.{are_same}
use Rattle.dac_wishes.specs.Writes.{dots_at}
use Rattle.dac_wishes.specs.WishesValue.{WishesValue}
use Rattle.dac_wishes.specs.PermissionsValue.{PermissionsValue, permits_at}
use Rattle.dac_wishes.specs.DrainsValue.{DrainsValue, drains_at}
use Rattle.dac_board.specs.Touched.{origin_of, same_vote}
use Rattle.dac_board.proofs.Untouched.{votes_compared}
use Rattle.dac_board.proofs.touching.stand_alike.Goals as goal

pub returns-then-starts : goal.returns-then-starts
returns-then-starts c =
    let key = c.args.key in
    let at = origin_of key in
    let old = c.args.old.now in
    let new = c.args.new.now in
    let permits : pointwise same_vote (permits_at key old.permits) (permits_at key new.permits) ≡ true =
    sym (c.eq-permits.ensures ∙ votes_compared c.dots.result.now c.dots-2.result.now ∙ ap₂ (pointwise same_vote)
    (c.dots.ensures ∙ ap (λ (p : PermissionsValue). permits_at key p.standing) c.permissions.ensures)
    (c.dots-2.ensures ∙ ap (λ (p : PermissionsValue). permits_at key p.standing) c.permissions-2.ensures)) ∙ c.if-starts.true.0 in
    let starts : pointwise are_same (in_order (dots_at key old.starts)) (in_order (dots_at key new.starts)) ≡ true =
    sym (c.eq-starts.ensures ∙ ap₂ (pointwise are_same)
    (c.dots-3.ensures ∙ ap (λ (v : WishesValue). in_order (dots_at key v.standing)) c.wishes.ensures)
    (c.dots-4.ensures ∙ ap (λ (v : WishesValue). in_order (dots_at key v.standing)) c.wishes-2.ensures)) ∙ c.if-starts.true.1 in
    c.eq-drains.ensures ∙ votes_compared c.dots-5.result.now c.dots-6.result.now ∙ ap₂ (pointwise same_vote)
    (c.dots-5.ensures ∙ ap (λ (v : DrainsValue). drains_at at v.standing) c.drains.ensures)
    (c.dots-6.ensures ∙ ap (λ (v : DrainsValue). drains_at at v.standing) c.drains-2.ensures)
    ∙ sym (λ i. (permits i && starts i) && pointwise same_vote (drains_at at old.drains) (drains_at at new.drains))

use Rattle.std.proofs.Common.{◌≡◌, ap, ◌∙◌}
use Rattle.std.specs.FinMap as map
use Rattle.dac_chains.specs.Claims.{Claims}
use Rattle.dac_board.specs.Boards.{RowValue, group_held}
use Rattle.dac_board.proofs.Kept.{kept_spots, kept_standing}
use Rattle.dac_board.proofs.Stays.{keeps_app, none_marked}
use Rattle.dac_board.proofs.row.Row.absorb.Goals as goal
use Rattle.dac_board.proofs.row.Row.absorb.Goals.{then-not-change+then-is_claimed_anew, else-not-change, else-not-change-via-then-not-change+else-is_claimed_anew, else-not-change-via-else-not-change}

pub returns-then-change-clause-shows : goal.returns-then-change-clause-shows
returns-then-change-clause-shows c = λ grown shows.
    let table = c.args.config.now in
    let change = c.args.change.now in
    let old = change.old.now in
    let new = change.new.now in
    let app = c.args.app in
    let kept = keeps_app old new app (λ node. grown.keeps node (none_marked change.pairs node.0 c.if-change-eq0.true)) (grown.lives c.if-change.true) (grown.drains c.if-change.true) in
    let spots = kept_spots table old new app kept in
    elim c.if-not-change.branch [
      | then-not-change+then-is_claimed_anew w ↦
          w.self-is ∙ (λ i. record { spots = (w.set_standing.ensures.spots ∙ ap (λ (r : RowValue). r.spots) shows ∙ spots) i; standing = w.set_standing.ensures.standing i; group = w.set_standing.ensures.group i })
      | else-not-change w ↦
          let claimed : map.get old.claims app ≡ map.get new.claims app = elim w.else-not-change.branch [
            | else-not-change-via-then-not-change+else-is_claimed_anew v ↦ v.is_claimed_anew.ensures v.if-is_claimed_anew.false
            | else-not-change-via-else-not-change v ↦ ap (λ (claims : Claims). map.get claims app) (grown.claims v.if-not-change.false)
          ] in
          let standing = kept_standing table old new app kept claimed in
          w.self-is ∙ (shows ∙ (λ i. record { spots = spots i; standing = standing i; group = group_held table app (standing i) }))
    ]

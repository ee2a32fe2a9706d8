use Rattle.std.proofs.Common.{◌≡◌, ℕ, ◌+◌, ◌∷◌, not, List, map, filter, drop, refl, ap}
use Rattle.dac_config.proofs.Common.{at_drop_all, AppRow, forbidden_text}
use Rattle.dac_config.proofs.Tables.{left_at}
use Rattle.dac_config.proofs.Gaining.{then, one_more, same_left, all_taken}
use Rattle.dac_config.proofs.config.text.put_forbidden.Goals as goal

abbrev texts : List AppRow → List (List ℕ)
texts rows = map (λ row. forbidden_text row.name) (filter (λ row. not row.permission) rows)

pub entry-requires : goal.entry-requires
entry-requires g c = rw c.apps-at-end.ensures.count at c.loop-at-test.true

pub loop-at-preserved-then-app : goal.loop-at-preserved-then-app
loop-at-preserved-then-app g c =
    let apps = c.args.config.now.apps in let at = c.loop-at.at in
    let left : texts (drop at apps) ≡ texts (drop (at + 1) apps) = rw (left_at apps at _ c.entry.ensures.row, ap not c.if-app.true) refl in
    same_left c.loop-at.invariant left

pub loop-at-preserved : goal.loop-at-preserved
loop-at-preserved g c =
    let apps = c.args.config.now.apps in let at = c.loop-at.at in
    let left : texts (drop at apps) ≡ forbidden_text c.entry.result.0.now ∷ texts (drop (at + 1) apps) = rw (left_at apps at _ c.entry.ensures.row, ap not c.if-app.false) refl in
    one_more c.loop-at.invariant left c.put.ensures (then c.put-in-loop-at.ensures (then c.put_name.ensures c.put-in-loop-at-2.ensures)) refl

pub returns : goal.returns
returns g c = all_taken c.loop-at.invariant (at_drop_all texts c.args.config.now.apps c.loop-at.at (rw c.apps-at-end.ensures.count at c.loop-at-test.false))

use Rattle.std.proofs.Common.{◌≤◌, ◌++◌, All, length, map, refl, sym, ap, subst, ◌∙◌}
use Rattle.dac_config.proofs.Common.{at_drop_all, All-nil, MAX_NODES, draft_of, app_of, apps_of, permissions_of, IsTable, node_row, app_row, IsPlaced, numbered_node, numbered_app}
use Rattle.dac_config.proofs.Names.{Differ, first_new, all_mapped}
use Rattle.dac_config.proofs.Numbers.{few_numbered, small_numbered, table_numbered}
use Rattle.dac_config.proofs.Tables.{left_from, row_pushed, still_new, all_pushed}
use Rattle.dac_config.proofs.config.Tables.of_draft.Goals as goal

pub loop-app-init : goal.loop-app-init
loop-app-init c = rw c.new-apps.ensures.empty (record { rows = refl; once = rw c.deref-app-items.ensures.value c.requires.limits.apps.different; placed = All-nil IsPlaced })

pub add_app-requires-clause-few : goal.add_app-requires-clause-few
add_app-requires-clause-few c =
    rw c.deref.ensures.value (few_numbered (draft_of c.args.draft.now) c.in_ok-nodes.nodes.items c.requires.limits.few (c.in_ok-nodes.ensures ∙ ap (map (numbered_node (draft_of c.args.draft.now))) c.in_byte_order.ensures))

pub add_app-requires-clause-groups : goal.add_app-requires-clause-groups
add_app-requires-clause-groups c =
    let items = c.deref-app-items.result.now in
    let few = all_mapped (λ app. length app.groups ≤ MAX_NODES) app_of items (subst (λ apps. All (λ app. length app.groups ≤ MAX_NODES) (apps_of apps)) (sym c.deref-app-items.ensures.value) c.requires.limits.groups) in
    subst (λ app. length (app_of app).groups ≤ MAX_NODES) (sym c.app-item.is) (few c.loop-app.app-index c.app-item.result c.loop-app-test.true)

pub add_app-requires-clause-new : goal.add_app-requires-clause-new
add_app-requires-clause-new c =
    first_new _ _ _ (subst (λ apps. Differ (map (λ row. row.name) (map app_row c.loop-app.apps.entries) ++ map (λ app. app.name) (apps_of apps))) (left_from c.deref-app-items.result.now c.loop-app.app-index c.app-item.result c.app-item.is c.loop-app-test.true) c.loop-app.invariant.once)

pub loop-app-preserved : goal.loop-app-preserved
loop-app-preserved c =
    let left = left_from c.deref-app-items.result.now c.loop-app.app-index c.app-item.result c.app-item.is c.loop-app-test.true in
    let added = rw c.deref.ensures.value at c.in_ok-add_app.ensures.rows in
    record {
      rows = row_pushed _ _ _ _ _ _ added (ap (λ apps. map (numbered_app (permissions_of c.args.draft.now.permissions.items) (map node_row c.in_ok-nodes.nodes.items)) (apps_of apps)) left) c.loop-app.invariant.rows;
      once = still_new _ _ _ _ added (subst (λ apps. Differ (map (λ row. row.name) (map app_row c.loop-app.apps.entries) ++ map (λ app. app.name) (apps_of apps))) left c.loop-app.invariant.once);
      placed = c.in_ok-add_app.ensures.places c.loop-app.invariant.placed;
    }

pub returns-clause-value : goal.returns-clause-value
returns-clause-value c =
    let w = draft_of c.args.draft.now in let rows = c.in_ok-nodes.ensures ∙ ap (map (numbered_node w)) c.in_byte_order.ensures in let row = numbered_app w.permissions (map node_row c.in_ok-nodes.nodes.items) in
    let apps = all_pushed _ _ _ (at_drop_all (λ apps. map row (apps_of apps)) c.deref-app-items.result.now c.loop-app.app-index c.loop-app-test.false) c.loop-app.invariant.rows ∙ ap (λ apps. map row (apps_of apps)) c.deref-app-items.ensures.value in
    table_numbered w (record { nodes = c.in_ok-nodes.nodes; apps = c.loop-app.apps; sync_wait = c.args.draft.now.sync_wait }) rows apps refl

pub returns-clause-kept : goal.returns-clause-kept
returns-clause-kept c = record {
  table = subst IsTable (sym (returns-clause-value c)) (small_numbered (draft_of c.args.draft.now) c.requires.limits c.requires.said);
  places = c.loop-app.invariant.placed;
}

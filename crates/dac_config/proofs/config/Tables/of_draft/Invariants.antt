use Rattle.std.proofs.Common.{◌≡◌, ◌++◌, map, drop, All}
use Rattle.dac_config.proofs.Common.{apps_of, permissions_of, numbered_app, node_row, app_row, IsPlaced}
use Rattle.dac_config.proofs.Names.{Differ}
use Rattle.dac_config.proofs.config.Tables.of_draft.Given as goal

abbrev pub invariant-loop-app : goal.invariant-loop-app
invariant-loop-app l =
    let row = numbered_app (permissions_of l.fn.draft.permissions.items) (map node_row l.nodes.items) in
    record {
      rows : map app_row l.apps.entries ++ map row (apps_of (drop l.app-index l.app-items)) ≡ map row (apps_of l.app-items);
      once : Differ (map (λ row. row.name) (map app_row l.apps.entries) ++ map (λ app. app.name) (apps_of (drop l.app-index l.app-items)));
      placed : All IsPlaced l.apps.entries;
    }

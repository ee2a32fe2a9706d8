use Rattle.std.proofs.Common.{◌<◌, ◌≤◌, All, length, subst}
use Rattle.dac_config.proofs.Common.{MAX_NODES, Table}
use Rattle.dac_config.proofs.config.Config.apps.Goals as goal

pub returns-clause-groups : goal.returns-clause-groups
returns-clause-groups c = subst (λ (t : Table). All (λ app. length app.groups ≤ MAX_NODES) t.apps) c.tables.ensures.view c.tables.ensures.kept.table.groups

pub returns-clause-members : goal.returns-clause-members
returns-clause-members c = subst (λ (t : Table). All (λ app. All (λ group. All (λ node. node < length t.nodes) group) app.groups) t.apps) c.tables.ensures.view c.tables.ensures.kept.table.members

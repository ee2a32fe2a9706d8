-- The contents of a configuration: nodes and applications by number, and how long a start waits.
use Rattle.std.specs.Prelude.{◌≡◌, ℕ, Bool, true, false, List, [], length, position, option_map, Option, unwrap_or, slice_get, ◌==◌}
use Rattle.std.specs.Option.{option_and_then}
use Rattle.std.specs.List.{list_any}
use Rattle.std.specs.Str.{bytes_eq}
use Rattle.dac_base.specs.declared.NodeId.{NodeId}
use Rattle.dac_base.specs.declared.AppId.{AppId}
use Rattle.dac_shapes.specs.declared.draft.SyncWait.{SyncWait}

-- a node: its name, and whether a starting node waits for it as mandatory or as optional
pub record NodeRow : Type 0 where
  pub name : List ℕ
  pub mandatory : Bool
  pub optional : Bool

-- an application: its name, its failover timeout in milliseconds, its groups of node numbers, the most preferred group
-- first, and whether it is permitted by default
pub record AppRow : Type 0 where
  pub name : List ℕ
  pub timeout : ℕ
  pub groups : List (List ℕ)
  pub permission : Bool

-- a configuration: the nodes in the byte order of their names, so that a node's number is its index; the applications
-- in the order of the file; and how long a starting node waits
pub record Table : Type 0 where
  pub nodes : List NodeRow
  pub apps : List AppRow
  pub sync_wait : SyncWait

-- the number of nodes
abbrev pub node_count : Table → ℕ
node_count table = length table.nodes

-- the number of applications
abbrev pub app_count : Table → ℕ
app_count table = length table.apps

-- the name of a node; empty if it doesn't exist
abbrev pub node_name : Table → NodeId → List ℕ
node_name table node = unwrap_or (option_map (λ row. row.name) (slice_get table.nodes node.0)) []

-- the name of an application; empty if it doesn't exist
abbrev pub app_name : Table → AppId → List ℕ
app_name table app = unwrap_or (option_map (λ row. row.name) (slice_get table.apps app.0)) []

-- the node with this name, if any
abbrev pub node_named : Table → List ℕ → Option NodeId
node_named table name =
    option_map (λ place. record { 0 = place }) (position (λ row. bytes_eq name row.name) table.nodes)

-- the application with this name, if any
abbrev pub app_named : Table → List ℕ → Option AppId
app_named table name = option_map (λ place. record { 0 = place }) (position (λ row. bytes_eq name row.name) table.apps)

-- the index of the first of these groups that contains the node
abbrev pub group_among : List (List ℕ) → ℕ → Option ℕ
group_among groups node = position (λ group. list_any (λ other. other == node) group) groups

-- the group of a node in an application's list, 0 for the most preferred; none if the list doesn't contain the node
abbrev pub group_of : Table → AppId → NodeId → Option ℕ
group_of table app node = option_and_then (λ row. group_among row.groups node.0) (slice_get table.apps app.0)

-- the groups of an application's list
abbrev pub groups_of : Table → AppId → List (List ℕ)
groups_of table app = unwrap_or (option_map (λ row. row.groups) (slice_get table.apps app.0)) []

-- the failover timeout of an application, in milliseconds
abbrev pub timeout_of : Table → AppId → ℕ
timeout_of table app = unwrap_or (option_map (λ row. row.timeout) (slice_get table.apps app.0)) 0

-- whether an application is permitted until a command changes this
abbrev pub default_permission : Table → AppId → Bool
default_permission table app = unwrap_or (option_map (λ row. row.permission) (slice_get table.apps app.0)) true

-- whether a starting node waits for this one as mandatory
abbrev pub is_mandatory : Table → NodeId → Bool
is_mandatory table node = unwrap_or (option_map (λ row. row.mandatory) (slice_get table.nodes node.0)) false

-- whether a starting node waits for this one as optional
abbrev pub is_optional : Table → NodeId → Bool
is_optional table node = unwrap_or (option_map (λ row. row.optional) (slice_get table.nodes node.0)) false

-- both configurations list the same nodes for an application, in the same groups, with the same default permission
pub record HaveEqualLists (t u : Table) (app : AppId) : Type 0 where
  pub groups : groups_of t app ≡ groups_of u app
  pub permission : default_permission t app ≡ default_permission u app

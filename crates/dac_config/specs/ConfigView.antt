-- How contracts see the tables of a configuration.
use Rattle.std.specs.Prelude.{◌≡◌, ℕ, ◌<◌, Bool, List, map, All, Option, None, Some, slice_get, nat_lt, if◌then◌else◌}
use Rattle.std.specs.Option.{option_and_then}
use Rattle.std.specs.Global.{Vec}
use Rattle.dac_base.specs.declared.limits.TheConstants.{MAX_NODES}
use Rattle.dac_config.specs.declared.config.App.{App}
use Rattle.dac_config.specs.declared.config.Node.{Node}
use Rattle.dac_config.specs.declared.config.Tables.{Tables}
use Rattle.dac_config.specs.declared.config.text.SyncList.{SyncList}
use Rattle.dac_config.specs.declared.config.text.SyncList.TheVariants.{Mandatory, Optional}
use Rattle.dac_config.specs.Table.{NodeRow, AppRow, Table, group_among}
use Rattle.dac_config.specs.Says.{IsTable}

-- a node as a row of the table
abbrev pub node_row : Node → NodeRow
node_row node = record { name = node.name.items; mandatory = node.mandatory; optional = node.optional }

-- the groups of an application, by node numbers
abbrev pub groups_in : App → List (List ℕ)
groups_in app = map (λ group. group.items) app.groups.items

-- an application as a row of the table
abbrev pub named_row : List ℕ → App → AppRow
named_row name app = record { name = name; timeout = app.timeout; groups = groups_in app; permission = app.permission }

-- an entry of the map, whose key is the application's name
abbrev pub app_row : Vec ℕ × App → AppRow
app_row entry = named_row entry.0.items entry.1

-- the application's groups contain only node numbers below this one
abbrev pub HasMembersBelow : ℕ → App → Type 0
HasMembersBelow count app = All (λ group. All (λ number. number < count) group.items) app.groups.items

-- whether a node is in this sync list
abbrev pub is_in : SyncList → NodeRow → Bool
is_in Mandatory node = node.mandatory
is_in Optional node = node.optional

-- the tables of a configuration as the table that contracts see
abbrev pub table_of : Tables → Table
table_of c = record { nodes = map node_row c.nodes.items; apps = map app_row c.apps.entries; sync_wait = c.sync_wait }

-- a stored byte is the index of a group, or none from MAX_NODES up
abbrev pub place_by : ℕ → Option ℕ
place_by kept = if nat_lt kept MAX_NODES then Some kept else None

-- the index stored for a node
abbrev pub place_at : List ℕ → ℕ → Option ℕ
place_at places node = option_and_then place_by (slice_get places node)

-- for each node the index of the first of these groups that contains it is stored
abbrev pub ArePlaces : List ℕ → List (List ℕ) → Type 0
ArePlaces places groups = (node : ℕ) → place_at places node ≡ group_among groups node

-- the stored indices of an entry of the map are right
abbrev pub IsPlaced : Vec ℕ × App → Type 0
IsPlaced entry = ArePlaces entry.1.places.items (groups_in entry.1)

-- the invariant of a configuration's tables
pub record IsKept (c : Tables) : Type 0 where
  pub table : IsTable (table_of c)
  pub places : All IsPlaced c.apps.entries

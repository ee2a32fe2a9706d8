-- Which configuration a text spells. It refers to no reader.
use Rattle.std.specs.Prelude.{◌≡◌, ◌⊎◌, ℕ, ◌<◌, ◌≤◌, Bool, true, false, List, length, ◌∷◌, ◌++◌, map, Option, None, Some, slice_get, ◌==◌, All}
use Rattle.std.specs.Ordering.{nat_cmp}
use Rattle.std.specs.List.{list_any, AllZip}
use Rattle.std.specs.List.Sorted.{IsStrictlySortedBy}
use Rattle.dac_base.specs.declared.limits.TheConstants.{MAX_APPS, MAX_NODES}
use Rattle.dac_shapes.specs.Written.{App, Permission, Written}
use Rattle.dac_shapes.specs.Limits.{is_among}
use Rattle.dac_shapes.specs.Grammar.{IsTextOf}
use Rattle.dac_shapes.specs.Within.{IsWithinLimits}
use Rattle.dac_config.specs.Table.{NodeRow, AppRow, Table, node_count, app_count}
use Rattle.dac_config.specs.Numbering.{name_cmp}

-- whether the node exists and the group contains it
abbrev pub is_named : List (List ℕ) → Option NodeRow → Bool
is_named group None = false
is_named group (Some node) = is_among node.name group

-- the numbers, in ascending order, are those of the nodes that the group contains
pub record IsGroup (nodes : List NodeRow) (group : List (List ℕ)) (numbers : List ℕ) : Type 0 where
  pub rising : IsStrictlySortedBy nat_cmp numbers
  pub members : (number : ℕ) → list_any (λ other. other == number) numbers ≡ is_named group (slice_get nodes number)

-- none of the permissions is of this name
abbrev pub IsUnmentioned : List Permission → List ℕ → Type 0
IsUnmentioned permissions name = is_among name (map (λ p. p.name) permissions) ≡ false

-- the value of the name's first permission, or true if there is none
abbrev pub IsDefaultPermission : List Permission → List ℕ → Bool → Type 0
IsDefaultPermission permissions name value =
    ((before after : List Permission) × (permissions ≡ before ++ record { name = name; value = value } ∷ after) × IsUnmentioned before name)
    ⊎ (IsUnmentioned permissions name × (value ≡ true))

-- a row has the application's name, timeout, groups in order, and default permission
pub record IsApp (permissions : List Permission) (nodes : List NodeRow) (app : App) (row : AppRow) : Type 0 where
  pub name : row.name ≡ app.name
  pub timeout : row.timeout ≡ app.timeout
  pub groups : AllZip (IsGroup nodes) app.groups row.groups
  pub permission : IsDefaultPermission permissions app.name row.permission

-- The table has numbers for the names of the draft: its nodes are those of the draft, in byte order of their names, and
-- its applications are in the order of the text.
pub record IsTableOf (w : Written) (table : Table) : Type 0 where
  pub rising : IsStrictlySortedBy name_cmp (map (λ node. node.name) table.nodes)
  pub nodes : (name : List ℕ) → is_among name (map (λ node. node.name) table.nodes) ≡ is_among name w.nodes
  pub mandatory : All (λ node. node.mandatory ≡ is_among node.name w.mandatory) table.nodes
  pub optional : All (λ node. node.optional ≡ is_among node.name w.optional) table.nodes
  pub apps : AllZip (IsApp w.permissions table.nodes) w.apps table.apps
  pub sync_wait : table.sync_wait ≡ w.sync_wait

-- the grammar assigns a draft to the text, and the table is that of the draft
pub record IsConfigOf (text : List ℕ) (table : Table) : Type 0 where
  pub written : Written
  pub spelled : IsTextOf text written
  pub numbers : IsTableOf written table

-- some text spells this configuration, with a draft that keeps the limits
pub data IsSaid (table : Table) : Type 0 where
  By : (text : List ℕ) (is : IsConfigOf text table) → IsWithinLimits is.written → IsSaid table

-- the invariant of each configuration: its limits, groups of existing nodes only, and a text that spells it
pub record IsTable (table : Table) : Type 0 where
  pub nodes : node_count table ≤ MAX_NODES
  pub apps : app_count table ≤ MAX_APPS
  pub groups : All (λ app. length app.groups ≤ MAX_NODES) table.apps
  pub members : All (λ app. All (λ group. All (λ number. number < node_count table) group) app.groups) table.apps
  pub said : IsSaid table

-- From the contents of a text, with names, to the table of a configuration, with numbers.
use Rattle.std.specs.Prelude.{ℕ, ◌+◌, Bool, true, List, [], ◌∷◌, map, fold, if◌then◌else◌}
use Rattle.std.specs.declared.cmp.Ordering.{Ordering}
use Rattle.std.specs.Ordering.{nat_cmp}
use Rattle.std.specs.Cmp.Lexicographic.{slice_cmp}
use Rattle.std.specs.Str.{bytes_eq}
use Rattle.std.specs.BTreeSet.{insert_key}
use Rattle.dac_shapes.specs.Written.{App, Permission, Written}
use Rattle.dac_shapes.specs.Limits.{is_among}
use Rattle.dac_config.specs.Table.{NodeRow, AppRow, Table}

-- the byte order of names
abbrev pub name_cmp : List ℕ → List ℕ → Ordering
name_cmp a b = slice_cmp nat_cmp a b

-- names in byte order, each once
abbrev pub in_byte_order : List (List ℕ) → List (List ℕ)
in_byte_order names = fold (insert_key name_cmp) [] names

-- the numbers of the nodes that a group contains, given the number of the first of these nodes
abbrev pub numbers_from : ℕ → List NodeRow → List (List ℕ) → List ℕ
numbers_from number [] group = []
numbers_from number (node ∷ nodes) group =
    if is_among node.name group then number ∷ numbers_from (number + 1) nodes group
    else numbers_from (number + 1) nodes group

-- the row of the node with this name
abbrev pub numbered_node : Written → List ℕ → NodeRow
numbered_node w name =
    record { name = name; mandatory = is_among name w.mandatory; optional = is_among name w.optional }

-- whether an application of this name is permitted: by the first of these permissions of its name, or true if there is
-- none
abbrev pub permitted : List Permission → List ℕ → Bool
permitted [] name = true
permitted (permission ∷ permissions) name = if bytes_eq permission.name name then permission.value else permitted permissions name

-- the row of an application, given these permissions, with numbers for the names of these nodes
abbrev pub numbered_app : List Permission → List NodeRow → App → AppRow
numbered_app permissions nodes app = record {
  name = app.name;
  timeout = app.timeout;
  groups = map (numbers_from 0 nodes) app.groups;
  permission = permitted permissions app.name;
}

-- the nodes of a text, in the byte order of their names
abbrev pub numbered_nodes : Written → List NodeRow
numbered_nodes w = map (numbered_node w) (in_byte_order w.nodes)

-- the configuration of a draft
abbrev pub numbered : Written → Table
numbered w = record {
  nodes = numbered_nodes w;
  apps = map (numbered_app w.permissions (numbered_nodes w)) w.apps;
  sync_wait = w.sync_wait;
}

-- The canonical text of a configuration: one line without spaces outside names.
use Rattle.std.specs.Prelude.{ℕ, Bool, false, not, ◌&&◌, List, [], ◌∷◌, ◌++◌, map, filter, unwrap_or, option_map, slice_get, if◌then◌else◌, codes}
use Rattle.std.specs.Fmt.{decimal}
use Rattle.std.specs.Str.{bytes_eq}
use Rattle.std.specs.List.{list_all}
use Rattle.std.specs.Char.{is_ascii_lowercase}
use Rattle.dac_tokens.specs.Scan.{is_name_byte}
use Rattle.dac_shapes.specs.declared.draft.SyncWait.{SyncWait}
use Rattle.dac_shapes.specs.declared.draft.SyncWait.TheVariants.{NoSync, Forever, Ms}
use Rattle.dac_config.specs.Table.{NodeRow, AppRow, Table}

-- ---- names

-- the first byte exists and is a small letter
abbrev pub begins_small : List ℕ → Bool
begins_small [] = false
begins_small (b ∷ bs) = is_ascii_lowercase b

-- a small letter followed by name bytes, except `fun`, which is no atom
abbrev pub is_bare : List ℕ → Bool
is_bare name = begins_small name && not (bytes_eq name (codes "fun")) && list_all is_name_byte name

-- a name as an Erlang atom: bare if possible, otherwise between quotes
abbrev pub name_text : List ℕ → List ℕ
name_text name = if is_bare name then name else codes "'" ++ (name ++ codes "'")

-- ---- texts between brackets

-- these texts, the first after `before` and each further one after a comma
abbrev pub separated_after : List ℕ → List (List ℕ) → List ℕ
separated_after before [] = []
separated_after before (text ∷ texts) = before ++ (text ++ separated_after (codes ",") texts)

-- these texts, separated by commas
abbrev pub parted : List (List ℕ) → List ℕ
parted texts = separated_after [] texts

-- a list of these texts
abbrev pub list_text : List (List ℕ) → List ℕ
list_text texts = codes "[" ++ (parted texts ++ codes "]")

-- a tuple of these texts
abbrev pub tuple_text : List (List ℕ) → List ℕ
tuple_text texts = codes "{" ++ (parted texts ++ codes "}")

-- a pair of two texts
abbrev pub pair_text : List ℕ → List ℕ → List ℕ
pair_text name value = codes "{" ++ (name ++ (codes "," ++ (value ++ codes "}")))

-- ---- the parts of a configuration

-- the name of the node with this number
abbrev pub node_name_text : List NodeRow → ℕ → List ℕ
node_name_text nodes number = name_text (unwrap_or (option_map (λ node. node.name) (slice_get nodes number)) [])

-- a group: a single node, or several as a tuple
abbrev pub group_text : List NodeRow → List ℕ → List ℕ
group_text nodes (number ∷ []) = node_name_text nodes number
group_text nodes numbers = tuple_text (map (node_name_text nodes) numbers)

-- an application with its timeout and its groups
abbrev pub app_text : List NodeRow → AppRow → List ℕ
app_text nodes app =
    pair_text (name_text app.name) (decimal app.timeout ++ (codes "," ++ list_text (map (group_text nodes) app.groups)))

-- an application that isn't permitted by default
abbrev pub forbidden_text : List ℕ → List ℕ
forbidden_text name = pair_text (name_text name) (codes "false")

-- the parameter of the start's wait, if it is defined
abbrev pub wait_texts : SyncWait → List (List ℕ)
wait_texts NoSync = []
wait_texts Forever = pair_text (codes "sync_nodes_timeout") (codes "infinity") ∷ []
wait_texts (Ms n) = pair_text (codes "sync_nodes_timeout") (decimal n) ∷ []

-- the parameters: the applications, those not permitted by default, the nodes of both sync lists, and the wait
abbrev pub param_texts : Table → List (List ℕ)
param_texts table =
    pair_text (codes "distributed") (list_text (map (app_text table.nodes) table.apps))
    ∷ pair_text (codes "permissions") (list_text (map (λ app. forbidden_text app.name) (filter (λ app. not app.permission) table.apps)))
    ∷ pair_text (codes "sync_nodes_mandatory") (list_text (map (λ node. name_text node.name) (filter (λ node. node.mandatory) table.nodes)))
    ∷ pair_text (codes "sync_nodes_optional") (list_text (map (λ node. name_text node.name) (filter (λ node. node.optional) table.nodes)))
    ∷ wait_texts table.sync_wait

-- The canonical text: applications are in the order of the file, nodes of the sync lists in the order of their names.
abbrev pub canonical_text : Table → List ℕ
canonical_text table = list_text (pair_text (codes "kernel") (list_text (param_texts table)) ∷ []) ++ codes ".\n"

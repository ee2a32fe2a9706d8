-- The limits of a text as counts, lengths and distinctness, without an order of reading.
use Rattle.std.specs.Prelude.{◌≡◌, ℕ, ◌<◌, ◌≤◌, true, List, [], ◌∷◌, ◌++◌, length, map, fold, All, count_by}
use Rattle.std.specs.List.{IsDistinct}
use Rattle.std.specs.Str.{bytes_eq}
use Rattle.dac_base.specs.declared.limits.TheConstants.{MAX_APPS, MAX_NODES}
use Rattle.dac_shapes.specs.declared.limits.TheConstants.{MAX_NAME}
use Rattle.dac_shapes.specs.declared.param.ParamName.{ParamName}
use Rattle.dac_shapes.specs.Written.{App, Permission, Param, Distributed, Permissions, Mandatory, Optional, Timeout, Section, Kernel, Written, name_of}
use Rattle.dac_shapes.specs.Limits.{is_among, is_named, is_kernel, with_name}

-- the concatenation of lists
abbrev pub joined : {A : Type 0} → List (List A) → List A
joined [] = []
joined (xs ∷ lists) = xs ++ joined lists

-- the parameters of the sections `kernel`, in the order of the text
abbrev pub params_in : List Section → List Param
params_in [] = []
params_in (Kernel params ∷ sections) = params ++ params_in sections
params_in (Section.Other ∷ sections) = params_in sections

-- the names of nodes in an application's list, in order
abbrev pub names_of_app : App → List (List ℕ)
names_of_app app = joined app.groups

-- the names of nodes in a parameter, in order
abbrev pub names_of_param : Param → List (List ℕ)
names_of_param (Distributed apps) = joined (map names_of_app apps)
names_of_param (Permissions permissions) = []
names_of_param (Mandatory names) = names
names_of_param (Optional names) = names
names_of_param (Timeout wait) = []
names_of_param Param.Other = []

-- the names of nodes in sections, in the order of the text
abbrev pub names_in : List Section → List (List ℕ)
names_in sections = joined (map names_of_param (params_in sections))

-- each name once, in order of first occurrence
abbrev pub firsts : List (List ℕ) → List (List ℕ)
firsts names = fold with_name [] names

-- the distinct names of nodes in sections, in order of first occurrence
abbrev pub nodes_in : List Section → List (List ℕ)
nodes_in sections = firsts (names_in sections)

-- at most MAX_APPS applications, with distinct names of at most MAX_NAME bytes, each without a repeated node
pub record AreAppsWithin (apps : List App) : Type 0 where
  pub few : length apps ≤ MAX_APPS
  pub short : All (λ app. length app.name ≤ MAX_NAME) apps
  pub different : IsDistinct bytes_eq (map (λ app. app.name) apps)
  pub once : All (λ app. IsDistinct bytes_eq (names_of_app app)) apps

-- the names of permissions have at most MAX_NAME bytes
abbrev pub ArePermissionsWithin : List Permission → Type 0
ArePermissionsWithin permissions = All (λ permission. length permission.name ≤ MAX_NAME) permissions

-- the value of a parameter keeps the limits of applications and permissions
abbrev pub IsValueWithin : Param → Type 0
IsValueWithin (Distributed apps) = AreAppsWithin apps
IsValueWithin (Permissions permissions) = ArePermissionsWithin permissions
IsValueWithin (Mandatory names) = Unit {0}
IsValueWithin (Optional names) = Unit {0}
IsValueWithin (Timeout wait) = Unit {0}
IsValueWithin Param.Other = Unit {0}

-- Sections keep the limits: at most one is `kernel`, each parameter that is read occurs at most once, applications and
-- permissions keep their limits, and there are at most MAX_NODES distinct nodes, with names of at most MAX_NAME bytes.
pub record AreWithinLimits (sections : List Section) : Type 0 where
  pub kernel : count_by is_kernel sections ≤ 1
  pub params : (name : ParamName) → count_by (λ param. is_named name (name_of param)) (params_in sections) ≤ 1
  pub values : All IsValueWithin (params_in sections)
  pub short : All (λ name. length name ≤ MAX_NAME) (names_in sections)
  pub few : length (nodes_in sections) ≤ MAX_NODES

-- A draft keeps the limits: applications and permissions keep theirs. The nodes are at most MAX_NODES distinct names of
-- at most MAX_NAME bytes, and include all names that the draft refers to. An application has at most MAX_NODES groups,
-- none of them empty.
pub record IsWithinLimits (w : Written) : Type 0 where
  pub apps : AreAppsWithin w.apps
  pub permissions : ArePermissionsWithin w.permissions
  pub few : length w.nodes ≤ MAX_NODES
  pub short : All (λ name. length name ≤ MAX_NAME) w.nodes
  pub different : IsDistinct bytes_eq w.nodes
  pub groups : All (λ app. length app.groups ≤ MAX_NODES) w.apps
  pub some : All (λ app. All (λ group. 0 < length group) app.groups) w.apps
  pub all : All (λ name. is_among name w.nodes ≡ true) (joined (map names_of_app w.apps) ++ w.mandatory ++ w.optional)

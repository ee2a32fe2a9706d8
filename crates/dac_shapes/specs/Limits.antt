-- The limits in text order: whether each item is allowed after those before it. Each definition takes the limits that
-- are kept; any others may be broken. A limit is identified by the fault that it causes.
use Rattle.std.specs.Prelude.{◌≡◌, ℕ, ◌<◌, ◌≤◌, ◌==◌, Bool, true, false, List, [], ◌∷◌, ◌++◌, length, map, Option, None, Some, if◌then◌else◌, refl}
use Rattle.std.specs.Str.{bytes_eq}
use Rattle.std.specs.List.{list_any}
use Rattle.dac_base.specs.declared.limits.TheConstants.{MAX_APPS, MAX_NODES}
use Rattle.dac_tokens.specs.declared.fault.FaultKind.{FaultKind}
use Rattle.dac_tokens.specs.declared.fault.FaultKind.TheVariants.{BadShape, TwiceApp, TwiceInList, TooManyNodes, TooManyApps, NameTooLong}
use Rattle.dac_shapes.specs.declared.limits.TheConstants.{MAX_NAME, MAX_TEXT}
use Rattle.dac_shapes.specs.declared.param.ParamName.{ParamName}
use Rattle.dac_shapes.specs.declared.param.ParamName.TheVariants as named
use Rattle.dac_shapes.specs.Written.{App, Permission, Param, Distributed, Permissions, Mandatory, Optional, Timeout, Section, Kernel, name_of}

-- fixes the limits of this crate, so that neither can change unnoticed
pub the_limits : (MAX_NAME ≡ 255) × (MAX_TEXT ≡ 65536)
the_limits = (refl, refl)

-- the distinct names of nodes met so far, and the names of the current node list
pub record Seen : Type 0 where
  pub met : List (List ℕ)
  pub listed : List (List ℕ)

-- no names, before a text is read
abbrev pub nothing : Seen
nothing = record { met = []; listed = [] }

-- whether the name is one of these
abbrev pub is_among : List ℕ → List (List ℕ) → Bool
is_among name names = list_any (λ other. bytes_eq other name) names

-- numbers that distinguish the parameters
abbrev pub number_of : ParamName → ℕ
number_of named.Distributed = 0
number_of named.Mandatory = 1
number_of named.Optional = 2
number_of named.Timeout = 3
number_of named.Permissions = 4

-- whether a parameter, if it is one that is read, is this one
abbrev pub is_named : ParamName → Option ParamName → Bool
is_named name None = false
is_named name (Some other) = number_of other == number_of name

-- whether one of the parameters has this name
abbrev pub has_param : ParamName → List Param → Bool
has_param name params = list_any (λ param. is_named name (name_of param)) params

-- whether a section is `kernel`
abbrev pub is_kernel : Section → Bool
is_kernel (Kernel params) = true
is_kernel Section.Other = false

-- whether one of the sections is `kernel`
abbrev pub has_kernel : List Section → Bool
has_kernel sections = list_any is_kernel sections

module _ {A : Type 0} (step : Seen → A → Seen) (May : List A → Seen → A → Type 0) where
  -- each item is allowed after those before it
  abbrev pub AllMay : List A → Seen → List A → Type 0
  AllMay before seen [] = Unit {0}
  AllMay before seen (x ∷ xs) = May before seen x × AllMay (before ++ x ∷ []) (step seen x) xs

-- the names seen after these items
abbrev pub steps : {A : Type 0} → (Seen → A → Seen) → Seen → List A → Seen
steps step seen [] = seen
steps step seen (x ∷ xs) = steps step (step seen x) xs

-- ---- the names seen

-- these names, followed by this one if it is new
abbrev pub with_name : List (List ℕ) → List ℕ → List (List ℕ)
with_name names name = if is_among name names then names else names ++ name ∷ []

-- the names seen after one more node
abbrev pub with_node : Seen → List ℕ → Seen
with_node seen name = record { met = with_name seen.met name; listed = seen.listed ++ name ∷ [] }

-- the names seen after these nodes
abbrev pub with_nodes : Seen → List (List ℕ) → Seen
with_nodes seen names = steps with_node seen names

-- the names seen after these groups
abbrev pub with_groups : Seen → List (List (List ℕ)) → Seen
with_groups seen groups = steps with_nodes seen groups

-- a node list begins, so that no names are listed
abbrev pub listing : Seen → Seen
listing seen = record seen { listed = [] }

-- the names seen after a node list
abbrev pub with_list : Seen → List (List (List ℕ)) → Seen
with_list seen groups = with_groups (listing seen) groups

-- the names seen after one more application
abbrev pub with_app : Seen → App → Seen
with_app seen app = with_list seen app.groups

-- the names seen after these applications
abbrev pub with_apps : Seen → List App → Seen
with_apps seen apps = steps with_app seen apps

-- a permission names no node
abbrev pub with_permission : Seen → Permission → Seen
with_permission seen permission = seen

-- the names seen after one more parameter
abbrev pub with_param : Seen → Param → Seen
with_param seen (Distributed apps) = with_apps seen apps
with_param seen (Permissions permissions) = seen
with_param seen (Mandatory names) = with_nodes seen names
with_param seen (Optional names) = with_nodes seen names
with_param seen (Timeout wait) = seen
with_param seen Param.Other = seen

-- the names seen after one more section
abbrev pub with_section : Seen → Section → Seen
with_section seen (Kernel params) = steps with_param seen params
with_section seen Section.Other = seen

-- ---- the limits that are kept

module _ (Kept : FaultKind → Type 0) where
  -- A node's name has at most MAX_NAME bytes, is new in its list unless repeats are allowed there, and was met before
  -- or fewer than MAX_NODES were.
  pub record NodeKeeps (repeats : Bool) (seen : Seen) (name : List ℕ) : Type 0 where
    pub short : Kept NameTooLong → length name ≤ MAX_NAME
    pub once : Kept TwiceInList → repeats ≡ false → is_among name seen.listed ≡ false
    pub few : Kept TooManyNodes → is_among name seen.met ≡ false → length seen.met < MAX_NODES

  abbrev pub NodesKeep : Bool → Seen → List (List ℕ) → Type 0
  NodesKeep repeats seen names = AllMay with_node (λ _. NodeKeeps repeats) [] seen names

  -- groups in which no node occurs twice
  abbrev pub GroupsKeep : Seen → List (List (List ℕ)) → Type 0
  GroupsKeep seen groups = AllMay with_nodes (λ _. NodesKeep false) [] seen groups

  -- a node list in which no node occurs twice
  abbrev pub ListKeeps : Seen → List (List (List ℕ)) → Type 0
  ListKeeps seen groups = GroupsKeep (listing seen) groups

  -- An application's name has at most MAX_NAME bytes and is new; if it is new, fewer than MAX_APPS precede it.
  pub record AppKeeps (before : List App) (seen : Seen) (app : App) : Type 0 where
    pub short : Kept NameTooLong → length app.name ≤ MAX_NAME
    pub once : Kept TwiceApp → is_among app.name (map (λ a. a.name) before) ≡ false
    pub few : Kept TooManyApps → is_among app.name (map (λ a. a.name) before) ≡ false → length before < MAX_APPS
    pub nodes : ListKeeps seen app.groups

  -- a permission's name has at most MAX_NAME bytes, whether or not an application has it
  abbrev pub PermissionKeeps : List Permission → Seen → Permission → Type 0
  PermissionKeeps before seen permission = Kept NameTooLong → length permission.name ≤ MAX_NAME

  abbrev pub ValueKeeps : Seen → Param → Type 0
  ValueKeeps seen (Distributed apps) = AllMay with_app AppKeeps [] seen apps
  ValueKeeps seen (Permissions permissions) = AllMay with_permission PermissionKeeps [] seen permissions
  ValueKeeps seen (Mandatory names) = NodesKeep true seen names
  ValueKeeps seen (Optional names) = NodesKeep true seen names
  ValueKeeps seen (Timeout wait) = Unit {0}
  ValueKeeps seen Param.Other = Unit {0}

  -- a parameter that is read occurs once
  pub record ParamKeeps (before : List Param) (seen : Seen) (param : Param) : Type 0 where
    pub once : Kept BadShape → (name : ParamName) → name_of param ≡ Some name → has_param name before ≡ false
    pub value : ValueKeeps seen param

  -- the section `kernel` occurs once
  pub record KernelKeeps (before : List Section) (seen : Seen) (kernel : List Param) : Type 0 where
    pub once : Kept BadShape → has_kernel before ≡ false
    pub params : AllMay with_param ParamKeeps [] seen kernel

  -- any section other than `kernel` is allowed
  abbrev pub SectionKeeps : List Section → Seen → Section → Type 0
  SectionKeeps before seen (Kernel params) = KernelKeeps before seen params
  SectionKeeps before seen Section.Other = Unit {0}

  -- sections keep the limits of these kinds
  abbrev pub Keeps : List Section → Type 0
  Keeps sections = AllMay with_section SectionKeeps [] nothing sections

-- every limit is kept
abbrev pub Every : FaultKind → Type 0
Every kind = Unit {0}

-- all sections of a text are allowed, in order
abbrev pub MaySections : List Section → Type 0
MaySections sections = Keeps Every sections

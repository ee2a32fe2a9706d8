-- The contents of a configuration text, with names and numbers as they are written.
use Rattle.std.specs.Prelude.{ℕ, Bool, List, [], Option, None, Some, fold, codes}
use Rattle.dac_shapes.specs.declared.draft.SyncWait.{SyncWait}
use Rattle.dac_shapes.specs.declared.draft.SyncWait.TheVariants.{NoSync}
use Rattle.dac_shapes.specs.declared.param.ParamName.{ParamName}
use Rattle.dac_shapes.specs.declared.param.ParamName.TheVariants as named

-- the exclusive bound of a time in milliseconds, so that it fits in 32 bits
abbrev pub ms_bound : ℕ
ms_bound = 4294967296

-- an application: its name, its timeout in milliseconds, and its groups of nodes by name
pub record App : Type 0 where
  pub name : List ℕ
  pub timeout : ℕ
  pub groups : List (List (List ℕ))

-- a permission: an application's name, and whether it can run until a command changes this
pub record Permission : Type 0 where
  pub name : List ℕ
  pub value : Bool

-- a parameter of the section `kernel` with its value, or one that is ignored
pub data Param : Type 0 where
  Distributed : List App → Param
  Permissions : List Permission → Param
  Mandatory : List (List ℕ) → Param
  Optional : List (List ℕ) → Param
  Timeout : SyncWait → Param
  Other : Param

-- a section: `kernel` with its parameters, or one that is ignored
pub data Section : Type 0 where
  Kernel : List Param → Section
  Other : Section

-- the parameter's name, if it is one that is read
abbrev pub name_of : Param → Option ParamName
name_of (Distributed apps) = Some named.Distributed
name_of (Permissions permissions) = Some named.Permissions
name_of (Mandatory names) = Some named.Mandatory
name_of (Optional names) = Some named.Optional
name_of (Timeout wait) = Some named.Timeout
name_of Param.Other = None

-- a parameter's name in the text
abbrev pub spelled : ParamName → List ℕ
spelled named.Distributed = codes "distributed"
spelled named.Permissions = codes "permissions"
spelled named.Mandatory = codes "sync_nodes_mandatory"
spelled named.Optional = codes "sync_nodes_optional"
spelled named.Timeout = codes "sync_nodes_timeout"

-- A whole text: its applications and permissions in order, the nodes that a start waits for and how long, and the
-- distinct names of nodes in order of first occurrence
pub record Written : Type 0 where
  pub apps : List App
  pub permissions : List Permission
  pub mandatory : List (List ℕ)
  pub optional : List (List ℕ)
  pub sync_wait : SyncWait
  pub nodes : List (List ℕ)

-- a text without parameters, with these nodes
abbrev pub unsaid : List (List ℕ) → Written
unsaid nodes = record { apps = []; permissions = []; mandatory = []; optional = []; sync_wait = NoSync; nodes = nodes }

-- a draft after one more parameter, of which the last of a name counts
abbrev pub put : Written → Param → Written
put w (Distributed apps) = record w { apps = apps }
put w (Permissions permissions) = record w { permissions = permissions }
put w (Mandatory names) = record w { mandatory = names }
put w (Optional names) = record w { optional = names }
put w (Timeout wait) = record w { sync_wait = wait }
put w Param.Other = w

-- a draft after these parameters, in order
abbrev pub put_all : Written → List Param → Written
put_all w params = fold put w params

-- a draft after one more section; one that is ignored changes nothing
abbrev pub put_section : Written → Section → Written
put_section w (Kernel params) = put_all w params
put_section w Section.Other = w

-- the draft of these sections, with these nodes
abbrev pub written : List Section → List (List ℕ) → Written
written sections nodes = fold put_section (unsaid nodes) sections

-- How contracts see the values that are read.
use Rattle.std.specs.Prelude.{ℕ, List, map, length, Result}
use Rattle.std.specs.Borrow.{Bor}
use Rattle.std.specs.Global.{Vec}
use Rattle.dac_tokens.specs.declared.fault.ConfigFault.{ConfigFault}
use Rattle.dac_tokens.specs.Words.{Located, located_of}
use Rattle.dac_shapes.specs.declared.parser.Parser.{Parser}
use Rattle.dac_shapes.specs.declared.draft.DraftApp.{DraftApp}
use Rattle.dac_shapes.specs.declared.draft.Draft.{Draft}
use Rattle.dac_shapes.specs.declared.draft.Permission.{Permission as ReadPermission}
use Rattle.dac_shapes.specs.declared.param.Param.{Param as ReadParam}
use Rattle.dac_shapes.specs.declared.param.Param.TheVariants as read
use Rattle.dac_shapes.specs.declared.param.Section.{Section as ReadSection}
use Rattle.dac_shapes.specs.declared.param.Section.TheVariants as section
use Rattle.dac_shapes.specs.Written.{App, Permission, Param, Distributed, Permissions, Mandatory, Optional, Timeout, Section, Kernel, Written}
use Rattle.dac_shapes.specs.Shape.{State}

-- ---- drafts, independent of where their names are in memory

abbrev pub names_of : List (Bor (List ℕ)) → List (List ℕ)
names_of names = map (λ name. name.now) names

abbrev pub groups_of : List (Vec (Bor (List ℕ))) → List (List (List ℕ))
groups_of groups = map (λ group. names_of group.items) groups

abbrev pub app_of : DraftApp → App
app_of app = record { name = app.name.now; timeout = app.timeout; groups = groups_of app.groups.items }

abbrev pub apps_of : List DraftApp → List App
apps_of apps = map app_of apps

abbrev pub permission_of : ReadPermission → Permission
permission_of permission = record { name = permission.name.now; value = permission.value }

abbrev pub permissions_of : List ReadPermission → List Permission
permissions_of permissions = map permission_of permissions

abbrev pub param_of : ReadParam → Param
param_of (read.Distributed apps) = Distributed (apps_of apps.items)
param_of (read.Permissions permissions) = Permissions (permissions_of permissions.items)
param_of (read.Mandatory names) = Mandatory (names_of names.items)
param_of (read.Optional names) = Optional (names_of names.items)
param_of (read.Timeout wait) = Timeout wait
param_of read.Other = Param.Other

abbrev pub params_of : List ReadParam → List Param
params_of params = map param_of params

abbrev pub section_of : ReadSection → Section
section_of (section.Kernel params) = Kernel (params_of params.items)
section_of section.Other = Section.Other

abbrev pub sections_of : List ReadSection → List Section
sections_of sections = map section_of sections

abbrev pub draft_of : Draft → Written
draft_of d = record {
  apps = apps_of d.apps.items;
  permissions = permissions_of d.permissions.items;
  mandatory = names_of d.mandatory.items;
  optional = names_of d.optional.items;
  sync_wait = d.sync_wait;
  nodes = names_of d.nodes.items;
}

-- ---- the state of a parser

-- the rest to read, and the names seen so far
abbrev pub parser_state : Parser → State
parser_state p =
    record { left = p.tokens; seen = record { met = names_of p.met.items; listed = names_of p.listed.items } }

-- the current token, and the state after it
abbrev pub here : Parser → Located × State
here p = (located_of p.token, parser_state p)

-- the result of `read` from the current token
abbrev pub from_here : {A : Type 0} → (Located → State → A) → Parser → A
from_here read p = read (located_of p.token) (parser_state p)

-- the number of remaining tokens, which decreases
abbrev pub tokens_left : Parser → ℕ
tokens_left p = length p.tokens.tokens

-- reads an element of a list, after those before it, from its first token
abbrev pub Reading : Type 0 → Type 0
Reading A = List A → Located → State → Result (A × State) ConfigFault

-- The meaning of a set of operations for permissions: the standing permits with their values, and the known dots.
use Rattle.std.specs.Prelude.{List, Option, None, Some}
use Rattle.dac_origins.specs.declared.dot.Dot.{Dot}
use Rattle.dac_lattice.specs.declared.flags.Flag.{Flag}
use Rattle.dac_wishes.specs.declared.key.Key.{Key}
use Rattle.dac_wishes.specs.declared.permit_act.PermitAct.{PermitAct}
use Rattle.dac_wishes.specs.declared.permit_act.PermitAct.TheVariants.{Permit, Other}
use Rattle.dac_wishes.specs.Keys.{key_cmp}
use Rattle.dac_wishes.specs.PermissionsValue.{PermissionsValue, flag_of}
use Rattle.dac_wishes.specs.VoteMeaning as votes
pub use Rattle.dac_wishes.specs.VoteMeaning.{or_else}

-- the dots that an act replaces
abbrev pub over_of : PermitAct → List Dot
over_of (Permit key value over) = over
over_of (Other over) = over

-- the vote of an act: the key and flag that it writes, if any
abbrev pub vote_of : PermitAct → Option (Key × Flag)
vote_of (Permit key value over) = Some (key, flag_of value)
vote_of (Other over) = None

-- The value is the meaning of the operations: a permit stands, with its value, if one of them writes it and none
-- replaces its dot.
abbrev pub IsMeaning : List (Dot × PermitAct) → PermissionsValue → Type 0
IsMeaning = votes.IsVoteMeaning key_cmp over_of vote_of

-- the delta of one operation
abbrev pub permit_delta : Dot → PermitAct → PermissionsValue
permit_delta = votes.vote_delta key_cmp over_of vote_of

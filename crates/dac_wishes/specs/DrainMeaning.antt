-- The meaning of a set of operations for drains: the standing drains with their values, and the known dots.
use Rattle.std.specs.Prelude.{List, Option, None, Some}
use Rattle.dac_origins.specs.declared.dot.Dot.{Dot}
use Rattle.dac_origins.specs.declared.dot.Origin.{Origin}
use Rattle.dac_origins.specs.Dots.{origin_cmp}
use Rattle.dac_lattice.specs.declared.flags.Flag.{Flag}
use Rattle.dac_wishes.specs.declared.drain_act.DrainAct.{DrainAct}
use Rattle.dac_wishes.specs.declared.drain_act.DrainAct.TheVariants.{Drain, Other}
use Rattle.dac_wishes.specs.DrainsValue.{DrainsValue, flag_of}
use Rattle.dac_wishes.specs.VoteMeaning as votes

-- the dots that an act replaces
abbrev pub over_of : DrainAct → List Dot
over_of (Drain at value over) = over
over_of (Other over) = over

-- the vote of an act: the origin and flag that it writes, if any
abbrev pub vote_of : DrainAct → Option (Origin × Flag)
vote_of (Drain at value over) = Some (at, flag_of value)
vote_of (Other over) = None

-- The value is the meaning of the operations: a drain stands, with its value, if one of them writes it and none
-- replaces its dot.
abbrev pub IsMeaning : List (Dot × DrainAct) → DrainsValue → Type 0
IsMeaning = votes.IsVoteMeaning origin_cmp over_of vote_of

-- the delta of one operation
abbrev pub drain_delta : Dot → DrainAct → DrainsValue
drain_delta = votes.vote_delta origin_cmp over_of vote_of

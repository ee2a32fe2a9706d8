-- Operations: an act with the dot that names it.
use Rattle.std.specs.Prelude.{◌≡◌, ◌≤◌, Bool, true, false, not, ◌||◌, List, [], length, Option, Some, None, nat_lt, ◌==◌, if◌then◌else◌}
use Rattle.dac_base.specs.declared.limits.TheConstants.{MAX_REPLACED}
use Rattle.dac_origins.specs.declared.dot.Dot.{Dot}
use Rattle.dac_origins.specs.Dots.{dot_cmp}
use Rattle.dac_origins.specs.Keys.{is_rising, IsRising, has_key}
use Rattle.dac_operations.specs.declared.act.Act.{Act}
use Rattle.dac_operations.specs.declared.act.Act.TheVariants.{Up, Down, Permit, Start, Stop, Drain}
use Rattle.dac_operations.specs.declared.op.OpFault.{OpFault}
use Rattle.dac_operations.specs.declared.op.OpFault.TheVariants.{OwnDot, BadOver, BadCounter, OnSelf}

-- An act, and the dot that names it. (Dots are those of delta-state CRDTs.)
pub record Operation : Type 0 where
  pub dot : Dot
  pub act : Act

-- the operation of a dot and an act
abbrev pub operation : Dot → Act → Operation
operation d a = record { dot = d; act = a }

-- the list of dots that an act replaces
abbrev pub over_list : Act → List Dot
over_list (Permit key value over) = over
over_list (Start key over) = over
over_list (Stop key over) = over
over_list (Drain node inc value over) = over
over_list _ = []

-- whether the act is an Up
abbrev pub reports_up : Act → Bool
reports_up Up = true
reports_up _ = false

-- the act replaces its own dot
abbrev pub replaces_itself : Dot → Act → Bool
replaces_itself d a = has_key dot_cmp (over_list a) d

-- the replaced dots aren't strictly ascending, or are more than 1,024
abbrev pub has_bad_over : List Dot → Bool
has_bad_over over = not (is_rising dot_cmp over) || nat_lt MAX_REPLACED (length over)

-- the counter is 1 and the act isn't an Up, or the act is an Up with another counter
abbrev pub has_bad_counter : Dot → Act → Bool
has_bad_counter d a = if reports_up a then not (d.n == 1) else d.n == 1

-- the act declares its issuer's node down
abbrev pub is_on_self : Dot → Act → Bool
is_on_self d (Down node inc) = node.0 == d.origin.node.0
is_on_self d _ = false

-- the first fault of a dot and an act, if any
abbrev pub fault_of : Dot → Act → Option OpFault
fault_of d a =
    if replaces_itself d a then Some OwnDot
    else if has_bad_over (over_list a) then Some BadOver
    else if has_bad_counter d a then Some BadCounter
    else if is_on_self d a then Some OnSelf
    else None

-- the rules of each operation
pub record IsSound (o : Operation) : Type 0 where
  -- its own dot isn't replaced
  pub apart : has_key dot_cmp (over_list o.act) o.dot ≡ false
  -- the replaced dots ascend
  pub rising : IsRising dot_cmp (over_list o.act)
  -- the replaced dots are at most 1,024
  pub few : length (over_list o.act) ≤ MAX_REPLACED
  -- only an Up has counter 1, and each Up has it
  pub counter : reports_up o.act ≡ (o.dot.n == 1)
  -- no node declares itself down
  pub other : is_on_self o.dot o.act ≡ false

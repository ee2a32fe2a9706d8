-- The values of words by role, and the lesser of two faults.
use Rattle.std.specs.Prelude.{Option, Some, None, nat_lt, if◌then◌else◌}
use Rattle.dac_script.specs.declared.fault.ScriptFaultKind.{ScriptFaultKind}
use Rattle.dac_script.specs.declared.values.Values.{Values}
use Rattle.dac_script.specs.declared.verb.Role.{Role}
use Rattle.dac_script.specs.declared.verb.Role.TheVariants as role
use Rattle.dac_script.specs.Faults.{script_number}
use Rattle.dac_script.specs.Forms.{Slot}
use Rattle.dac_script.specs.Forms.Slot.{Node, App, About, Number, Flag, Hex}

-- the place that a word of this role fills
abbrev pub slot_of : Values → Role → Slot
slot_of values role.Actor = Node values.actor
slot_of values role.Other = Node values.other
slot_of values role.Application = App values.app
slot_of values role.About = About values.about
slot_of values role.Number = Number values.number
slot_of values role.Flag = Flag values.flag
slot_of values role.Hex = Hex values.bytes

-- the one that comes first in the list of kinds
abbrev pub least_of : ScriptFaultKind → ScriptFaultKind → ScriptFaultKind
least_of one other = if nat_lt (script_number other) (script_number one) then other else one

-- the lesser fault, if there is any
abbrev pub lesser : Option ScriptFaultKind → Option ScriptFaultKind → Option ScriptFaultKind
lesser (Some one) (Some other) = Some (least_of one other)
lesser (Some one) None = Some one
lesser None other = other

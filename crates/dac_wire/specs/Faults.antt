-- Numbers and names of faults, and the packet fault of a field fault.
use Rattle.std.specs.Prelude.{◌≡◌, ℕ, List, Result, Ok, Err, codes}
use Rattle.dac_bytes.specs.declared.fault.ReadFault.{ReadFault}
use Rattle.dac_bytes.specs.declared.fault.ReadFaultKind.{ReadFaultKind}
use Rattle.dac_bytes.specs.declared.fault.ReadFaultKind.TheVariants as field
use Rattle.dac_wire.specs.declared.fault.WireFault.{WireFault}
use Rattle.dac_wire.specs.declared.fault.WireFaultKind.{WireFaultKind}
use Rattle.dac_wire.specs.declared.fault.WireFaultKind.TheVariants.{TooLong, BadMagic, BadVersion, OtherConfig, Short, BadNumber, BadOrder, BadName, NotInList, NotKnown, Trailing, NoMemory}

-- a kind's number in the program's output
abbrev pub number_of : WireFaultKind → ℕ
number_of TooLong = 1
number_of BadMagic = 2
number_of BadVersion = 3
number_of OtherConfig = 4
number_of Short = 5
number_of BadNumber = 6
number_of BadOrder = 7
number_of BadName = 8
number_of NotInList = 9
number_of NotKnown = 10
number_of Trailing = 11
number_of NoMemory = 12

-- a kind's name in the program's output
abbrev pub name_of : WireFaultKind → List ℕ
name_of TooLong = codes "TooLong"
name_of BadMagic = codes "BadMagic"
name_of BadVersion = codes "BadVersion"
name_of OtherConfig = codes "OtherConfig"
name_of Short = codes "Short"
name_of BadNumber = codes "BadNumber"
name_of BadOrder = codes "BadOrder"
name_of BadName = codes "BadName"
name_of NotInList = codes "NotInList"
name_of NotKnown = codes "NotKnown"
name_of Trailing = codes "Trailing"
name_of NoMemory = codes "NoMemory"

-- the kind of packet fault with the name of a kind of field fault
abbrev pub kind_of_field : ReadFaultKind → WireFaultKind
kind_of_field field.Short = Short
kind_of_field field.BadNumber = BadNumber
kind_of_field field.BadOrder = BadOrder
kind_of_field field.BadName = BadName
kind_of_field field.NotInList = NotInList
kind_of_field field.NotKnown = NotKnown
kind_of_field field.Trailing = Trailing
kind_of_field field.NoMemory = NoMemory

-- the packet fault of a field fault, at the same offset
abbrev pub fault_of_field : ReadFault → WireFault
fault_of_field e = record { kind = kind_of_field e.kind; at = e.at }

-- the result of reading fields, with its fault as a packet fault
abbrev pub in_packet : {X : Type 0} → Result X ReadFault → Result X WireFault
in_packet (Ok x) = Ok x
in_packet (Err e) = Err (fault_of_field e)

-- The definition has this fault, unless it is `NoMemory`, which has offset 0 and carries no information about the
-- bytes.
abbrev pub Fails : {X : Type 0} → WireFaultKind → WireFault → Result X WireFault → Type 0
Fails NoMemory e read = e.at ≡ 0
Fails _ e read = read ≡ Err e

-- The result of a call is the result of the definition, unless memory ran out.
abbrev pub Gives : {X : Type 0} → Result X WireFault → Result X WireFault → Type 0
Gives (Ok x) read = read ≡ Ok x
Gives (Err e) read = Fails e.kind e read

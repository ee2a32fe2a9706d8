-- Numbers and names of faults.
use Rattle.std.specs.Prelude.{ℕ, List, codes}
use Rattle.dac_bytes.specs.declared.fault.ReadFaultKind.{ReadFaultKind}
use Rattle.dac_bytes.specs.declared.fault.ReadFaultKind.TheVariants.{Short, BadNumber, BadOrder, BadName, NotInList, NotKnown, Trailing, NoMemory}

-- a kind's number in the program's output
abbrev pub number_of : ReadFaultKind → ℕ
number_of Short = 1
number_of BadNumber = 2
number_of BadOrder = 3
number_of BadName = 4
number_of NotInList = 5
number_of NotKnown = 6
number_of Trailing = 7
number_of NoMemory = 8

-- a kind's name in the program's output
abbrev pub name_of : ReadFaultKind → List ℕ
name_of Short = codes "Short"
name_of BadNumber = codes "BadNumber"
name_of BadOrder = codes "BadOrder"
name_of BadName = codes "BadName"
name_of NotInList = codes "NotInList"
name_of NotKnown = codes "NotKnown"
name_of Trailing = codes "Trailing"
name_of NoMemory = codes "NoMemory"

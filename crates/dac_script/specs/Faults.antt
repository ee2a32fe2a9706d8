-- Numbers and names of faults.
use Rattle.std.specs.Prelude.{ℕ, List, codes}
use Rattle.dac_script.specs.declared.fault.InputFault.{InputFault}
use Rattle.dac_script.specs.declared.fault.InputFault.TheVariants.{TooLong, NoScript, Read}
use Rattle.dac_script.specs.declared.fault.ScriptFaultKind.{ScriptFaultKind}
use Rattle.dac_script.specs.declared.fault.ScriptFaultKind.TheVariants.{BadWord, BadCount, BadName, BadNumber, UnknownActor, BadHex}

-- the number of a fault of the whole input
abbrev pub input_number : InputFault → ℕ
input_number TooLong = 1
input_number NoScript = 2
input_number Read = 3

-- the name of a fault of the whole input
abbrev pub input_name : InputFault → List ℕ
input_name TooLong = codes "TooLong"
input_name NoScript = codes "NoScript"
input_name Read = codes "Read"

-- the number of a fault of a script line
abbrev pub script_number : ScriptFaultKind → ℕ
script_number BadWord = 1
script_number BadCount = 2
script_number BadName = 3
script_number BadNumber = 4
script_number UnknownActor = 5
script_number BadHex = 6

-- the name of a fault of a script line
abbrev pub script_name : ScriptFaultKind → List ℕ
script_name BadWord = codes "BadWord"
script_name BadCount = codes "BadCount"
script_name BadName = codes "BadName"
script_name BadNumber = codes "BadNumber"
script_name UnknownActor = codes "UnknownActor"
script_name BadHex = codes "BadHex"

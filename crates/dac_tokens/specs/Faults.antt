-- Numbers and names of faults, and the faults of tokens.
use Rattle.std.specs.Prelude.{ℕ, List, codes}
use Rattle.dac_tokens.specs.declared.fault.FaultKind.{FaultKind}
use Rattle.dac_tokens.specs.declared.fault.FaultKind.TheVariants.{TooLong, BadToken, Unsupported, BadShape, NoDistributed, TwiceApp, TwiceInList, EmptyList, EmptyTuple, TooManyNodes, TooManyApps, NumberTooLarge, NameTooLong, NoMemory}

-- a kind's number in the program's output
abbrev pub number_of : FaultKind → ℕ
number_of TooLong = 1
number_of BadToken = 2
number_of Unsupported = 3
number_of BadShape = 4
number_of NoDistributed = 5
number_of TwiceApp = 6
number_of TwiceInList = 7
number_of EmptyList = 8
number_of EmptyTuple = 9
number_of TooManyNodes = 10
number_of TooManyApps = 11
number_of NumberTooLarge = 12
number_of NameTooLong = 13
number_of NoMemory = 14

-- a kind's name in the program's output
abbrev pub name_of : FaultKind → List ℕ
name_of TooLong = codes "TooLong"
name_of BadToken = codes "BadToken"
name_of Unsupported = codes "Unsupported"
name_of BadShape = codes "BadShape"
name_of NoDistributed = codes "NoDistributed"
name_of TwiceApp = codes "TwiceApp"
name_of TwiceInList = codes "TwiceInList"
name_of EmptyList = codes "EmptyList"
name_of EmptyTuple = codes "EmptyTuple"
name_of TooManyNodes = codes "TooManyNodes"
name_of TooManyApps = codes "TooManyApps"
name_of NumberTooLarge = codes "NumberTooLarge"
name_of NameTooLong = codes "NameTooLong"
name_of NoMemory = codes "NoMemory"

-- the two kinds that a token can have
abbrev pub IsTokenFault : FaultKind → Type 0
IsTokenFault BadToken = Unit {0}
IsTokenFault Unsupported = Unit {0}
IsTokenFault _ = ⊥

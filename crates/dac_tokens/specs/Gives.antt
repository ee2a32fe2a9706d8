-- How results of the code relate to results of the reading functions on lists.
use Rattle.std.specs.Prelude.{◌≡◌, ℕ, Result, Ok, Err}
use Rattle.dac_tokens.specs.declared.fault.FaultKind.{FaultKind}
use Rattle.dac_tokens.specs.declared.fault.FaultKind.TheVariants.{NoMemory}
use Rattle.dac_tokens.specs.declared.fault.ConfigFault.{ConfigFault}

-- two readings in sequence; a fault of the first is the fault of both
infixl 10 ◌>>=◌
abbrev pub ◌>>=◌ : {A B : Type 0} → Result A ConfigFault → (A → Result B ConfigFault) → Result B ConfigFault
(Ok x) >>= f = f x
(Err e) >>= f = Err e

-- the result of a function that allocates nothing is, seen by `view`, the result of the definition
abbrev pub Reads : {X Y : Type 0} → (X → Y) → Result X ConfigFault → Result Y ConfigFault → Type 0
Reads view (Ok x) read = read ≡ Ok (view x)
Reads view (Err e) read = read ≡ Err e

-- `NoMemory` has offset 0 and carries no information about the text; for any other fault, P holds
abbrev pub OrMemory : FaultKind → ℕ → Type 0 → Type 0
OrMemory NoMemory at P = at ≡ 0
OrMemory _ at P = P

-- the definition has this fault, unless it is `NoMemory`
abbrev pub Fails : {Y : Type 0} → ConfigFault → Result Y ConfigFault → Type 0
Fails e read = OrMemory e.kind e.at (read ≡ Err e)

-- the result of a function is, seen by `view`, the result of the definition, unless memory ran out
abbrev pub Gives : {X Y : Type 0} → (X → Y) → Result X ConfigFault → Result Y ConfigFault → Type 0
Gives view (Ok x) read = read ≡ Ok (view x)
Gives view (Err e) read = Fails e read

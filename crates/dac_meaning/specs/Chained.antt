-- For each key the greatest value that operations report. It depends on the set of operations only, and that of two
-- lists is the greater of both.
use Rattle.std.proofs.Common.{◌≡◌, List, Option, Some}
use Rattle.dac_origins.specs.declared.dot.Dot.{Dot}
use Rattle.dac_operations.specs.declared.act.Act.{Act}
use Rattle.dac_operations.specs.Operations.{Operation}
use Rattle.dac_meaning.specs.Meaning.{IsOperationOf}

-- an operation in the list reports the value for the key
abbrev pub SaysFor : {K T : Type 0} → (Dot → Act → Option (K × T)) → List Operation → K → T → Type 0
SaysFor said os k v = (o : Operation) × (IsOperationOf o os × (said o.dot o.act ≡ Some (k, v)))

-- The start wish of an operation.
use Rattle.std.specs.Prelude.{Option, None, Some}
use Rattle.dac_wishes.specs.declared.key.Key.{Key}
use Rattle.dac_operations.specs.declared.act.Act.{Act}
use Rattle.dac_operations.specs.declared.act.Act.TheVariants.{Start}

-- the key that an act wishes to start, if any
abbrev pub started_in : Act → Option Key
started_in (Start key over) = Some key
started_in _ = None

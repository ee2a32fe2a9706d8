-- Reading a configuration text, as a function.
use Rattle.std.specs.Prelude.{ℕ, List, Result, Ok}
use Rattle.dac_tokens.specs.declared.fault.ConfigFault.{ConfigFault}
use Rattle.dac_tokens.specs.Gives.{◌>>=◌}
use Rattle.dac_shapes.specs.Shape.{draft_at}
use Rattle.dac_config.specs.Table.{Table}
use Rattle.dac_config.specs.Numbering.{numbered}

-- the configuration of a text, or the first fault of the text
abbrev pub config_at : List ℕ → Result Table ConfigFault
config_at text = do
  draft ← draft_at text
  Ok (numbered draft)

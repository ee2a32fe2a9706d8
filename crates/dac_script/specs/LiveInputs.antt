-- The configuration and script of an input of `live`, and why an input fails.
use Rattle.std.specs.Prelude.{ℕ, List}
use Rattle.dac_config.specs.Table.{Table}
use Rattle.dac_script.specs.declared.failure.Failure.{Failure}
use Rattle.dac_script.specs.Inputs.{SaysAll, IsInputFailure}
use Rattle.dac_script.specs.declared.live_line.LiveLine.{LiveLine}
use Rattle.dac_script.specs.LiveForms.{SpellsLive}
use Rattle.dac_script.specs.LiveFaults.{HasFault}

-- the input consists of this configuration and this script
abbrev pub SaysLiveScript : List ℕ → Table → List LiveLine → Type 0
SaysLiveScript bytes table lines = SaysAll SpellsLive HasFault bytes table lines

-- why an input of `live` isn't read
abbrev pub IsLiveFailureOf : List ℕ → Failure → Type 0
IsLiveFailureOf bytes why = IsInputFailure SpellsLive HasFault bytes why

-- The output of `distac sim`.
use Rattle.std.specs.Prelude.{ℕ, List, Option}
use Rattle.std.specs.Io.KnownBytes.{Appends}
use Rattle.dac_config.specs.Table.{Table}
use Rattle.dac_core.specs.ModelWorld.{start}
use Rattle.dac_script.specs.declared.line.ScriptLine.{ScriptLine}
use Rattle.dac_script.specs.Inputs.{SaysScript, IsFailureOf}
use Rattle.dac_play.specs.declared.ending.Ending.{Ending}
use Rattle.dac_play.specs.Endings.{Ends}
use Rattle.dac_play.specs.Play.{script_text}
use Rattle.dac_play.specs.Runs.{PlaysRuns}

-- the output is that of the input's script, and every world that its lines show is that of a run
pub record IsSimulated (bytes : List ℕ) (old new : Option (List ℕ)) : Type 0 where
  pub table : Table
  pub lines : List ScriptLine
  pub says : SaysScript bytes table lines
  pub printed : Appends old new (script_text table (start table) lines)
  pub runs : PlaysRuns table lines

-- how `distac sim` ends on an input with these bytes
abbrev pub EndsSim : List ℕ → Ending → Option (List ℕ) → Option (List ℕ) → Type 0
EndsSim bytes = Ends (IsSimulated bytes) (IsFailureOf bytes)

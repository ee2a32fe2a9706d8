-- The configuration and script of an input, and why an input fails; for `sim` and `live`.
use Rattle.std.specs.Prelude.{◌≡◌, ◌≢◌, ℕ, ◌<◌, List, length, All, Err}
use Rattle.dac_tokens.specs.declared.fault.ConfigFault.{ConfigFault}
use Rattle.dac_config.specs.Table.{Table}
use Rattle.dac_config.specs.Says.{IsConfigOf}
use Rattle.dac_config.specs.Reading.{config_at}
use Rattle.dac_script.specs.declared.failure.Failure.{Failure}
use Rattle.dac_script.specs.declared.failure.Failure.TheVariants as failure
use Rattle.dac_script.specs.declared.fault.InputFault.TheVariants.{TooLong, NoScript, Read}
use Rattle.dac_script.specs.declared.fault.ScriptFault.{ScriptFault}
use Rattle.dac_script.specs.declared.input.TheConstants.{MAX_INPUT}
use Rattle.dac_script.specs.declared.fault.ScriptFaultKind.{ScriptFaultKind}
use Rattle.dac_script.specs.declared.line.ScriptLine.{ScriptLine}
use Rattle.dac_script.specs.Script.{lines_of, ReadsAs, IsFirstFault}
use Rattle.dac_script.specs.Forms.{Spells}
use Rattle.dac_script.specs.LineFaults.{HasFault}
use Rattle.dac_script.specs.Input.{IsTaken, divider, IsParted}

-- the configuration has this fault
pub record HasConfigFault (text : List ℕ) (fault : ConfigFault) : Type 0 where
  pub config : List ℕ
  pub script : List ℕ
  pub parted : IsParted text config script
  pub fault_is : config_at config ≡ Err fault

-- any kind of script, given which words spell a line and which faults words have
module _ {Line : Type 0} (Spells : Table → Line → List (List ℕ) → Type 0)
    (HasFault : Table → List (List ℕ) → ScriptFaultKind → Type 0) where
  -- the text consists of this configuration and this script
  pub record HasParts (text : List ℕ) (table : Table) (lines : List Line) : Type 0 where
    pub config : List ℕ
    pub script : List ℕ
    pub parted : IsParted text config script
    pub table_is : IsConfigOf config table
    pub lines_are : ReadsAs Spells HasFault table (lines_of script) lines

  -- the configuration is sound, and the script has this fault
  pub record HasScriptFault (text : List ℕ) (fault : ScriptFault) : Type 0 where
    pub config : List ℕ
    pub script : List ℕ
    pub parted : IsParted text config script
    pub table : Table
    pub table_is : IsConfigOf config table
    pub fault_is : IsFirstFault Spells HasFault table (lines_of script) fault

  -- why a text isn't read: no divider, a fault of the configuration or of the script, or a failed allocation
  abbrev pub IsPartsFailure : List ℕ → Failure → Type 0
  IsPartsFailure text (failure.Input TooLong) = ⊥
  IsPartsFailure text (failure.Input NoScript) = All (λ line. line ≢ divider) (lines_of text)
  IsPartsFailure text (failure.Input Read) = ⊥
  IsPartsFailure text (failure.Config fault) = HasConfigFault text fault
  IsPartsFailure text (failure.Script fault) = HasScriptFault text fault
  IsPartsFailure text failure.NoMemory = Unit {0}

  -- the input isn't too long, and consists of this configuration and this script
  pub record SaysAll (bytes : List ℕ) (table : Table) (lines : List Line) : Type 0 where
    pub taken : IsTaken bytes
    pub parts : HasParts bytes table lines

  -- Why an input isn't read. Faults of its contents are reported only if it isn't too long. A failed read or allocation
  -- says nothing about the contents.
  abbrev pub IsInputFailure : List ℕ → Failure → Type 0
  IsInputFailure bytes (failure.Input TooLong) = MAX_INPUT < length bytes
  IsInputFailure bytes (failure.Input NoScript) = IsTaken bytes × All (λ line. line ≢ divider) (lines_of bytes)
  IsInputFailure bytes (failure.Input Read) = Unit {0}
  IsInputFailure bytes (failure.Config fault) = IsTaken bytes × HasConfigFault bytes fault
  IsInputFailure bytes (failure.Script fault) = IsTaken bytes × HasScriptFault bytes fault
  IsInputFailure bytes failure.NoMemory = Unit {0}

-- the input of `sim` consists of this configuration and this script
abbrev pub SaysScript : List ℕ → Table → List ScriptLine → Type 0
SaysScript bytes table lines = SaysAll Spells HasFault bytes table lines

-- why an input of `sim` isn't read
abbrev pub IsFailureOf : List ℕ → Failure → Type 0
IsFailureOf bytes why = IsInputFailure Spells HasFault bytes why

-- From the text read to the input, for scripts of `sim` or `live`.
use Rattle.std.proofs.Common.{◌≡◌, ℕ, List, Option, IfSome, Some, None, Err, sym, subst}
use Rattle.dac_script.specs.laws.Common.{Table, Failure, ScriptFaultKind, MAX_INPUT, lines_of, IsScriptFailure, IsParted, IsInputFailure}
use Rattle.std.proofs.lemmas.Option.{IfSome_then}
use Rattle.dac_tokens.specs.declared.fault.ConfigFault.{ConfigFault}
use Rattle.dac_tokens.specs.declared.fault.FaultKind.{FaultKind}
use Rattle.dac_tokens.specs.declared.fault.FaultKind.TheVariants.{NoMemory}
use Rattle.dac_tokens.specs.Gives.{OrMemory}
use Rattle.dac_config.specs.Says.{IsConfigOf}
use Rattle.dac_config.specs.Reading.{config_at}
use Rattle.dac_script.specs.declared.failure.Failure.TheVariants as failure
use Rattle.dac_script.specs.declared.fault.InputFault.TheVariants.{TooLong, NoScript, Read}
use Rattle.dac_script.specs.Failures.{failure_of_kind}
use Rattle.dac_script.specs.Input.{IsTaken, IsReadFailure}
use Rattle.dac_script.specs.Inputs.{IsPartsFailure}
use Rattle.dac_script.specs.Sources.{Sourced, IsLeftBy}
use Rattle.dac_script.specs.declared.source.Progress.TheVariants.{Ended}

-- a fact about the text that was read holds for the input's bytes
pub of_bytes : (a : Option (List ℕ)) (text : List ℕ) (P : List ℕ → Type 0) → IfSome a (λ bytes. text ≡ bytes) → P text → IfSome a P
of_bytes a text P same p = IfSome_then a same (λ bytes e. subst P e p)

module _ {Line : Type 0} (Spells : Table → Line → List (List ℕ) → Type 0)
    (HasFault : Table → List (List ℕ) → ScriptFaultKind → Type 0) where
  pub read_fails : (a : Option (List ℕ)) (why : Failure) → IsReadFailure MAX_INPUT a why → IfSome a (λ bytes. IsInputFailure Spells HasFault bytes why)
  read_fails None why fails = tt
  read_fails (Some bytes) (failure.Input TooLong) fails = fails
  read_fails (Some bytes) failure.NoMemory fails = tt
  read_fails (Some bytes) (failure.Input Read) fails = tt
  read_fails (Some bytes) why fails = absurd fails

  -- a failure of the parts is a failure of the input
  pub parts_fail : (text : List ℕ) (why : Failure) → IsTaken text → IsPartsFailure Spells HasFault text why → IsInputFailure Spells HasFault text why
  parts_fail text (failure.Input NoScript) taken fails = (taken, fails)
  parts_fail text (failure.Config fault) taken fails = (taken, fails)
  parts_fail text (failure.Script fault) taken fails = (taken, fails)
  parts_fail text failure.NoMemory taken fails = tt
  parts_fail text why taken fails = absurd fails

  -- a source that was read to its end is left as a failure of the parts requires
  pub left_by_parts : (text : List ℕ) (source : Sourced) (why : Failure) → source.progress ≡ Ended → IsPartsFailure Spells HasFault text why → IsLeftBy why source
  left_by_parts text source (failure.Input TooLong) ended fails = absurd fails
  left_by_parts text source (failure.Input Read) ended fails = absurd fails
  left_by_parts text source failure.NoMemory ended fails = λ failed. cc
  left_by_parts text source why ended fails = ended

  config_fails_by : (kind : FaultKind) (text config script : List ℕ) (fault : ConfigFault) → IsParted text config script → OrMemory kind fault.at (config_at config ≡ Err fault) → IsPartsFailure Spells HasFault text (failure_of_kind kind fault)
  config_fails_by NoMemory text config script fault parted fails = tt
  config_fails_by _ text config script fault parted fails = record { config = config; script = script; parted = parted; fault_is = fails }

  pub config_fails : (text config script : List ℕ) (fault : ConfigFault) (why : Failure) → IsParted text config script → OrMemory fault.kind fault.at (config_at config ≡ Err fault) → why ≡ failure_of_kind fault.kind fault → IsPartsFailure Spells HasFault text why
  config_fails text config script fault why parted fails is_why = subst (IsPartsFailure Spells HasFault text) (sym is_why) (config_fails_by fault.kind text config script fault parted fails)

  pub script_has : (text config script : List ℕ) (table : Table) (why : Failure) → IsParted text config script → IsConfigOf config table → IsScriptFailure Spells HasFault table (lines_of script) why → IsPartsFailure Spells HasFault text why
  script_has text config script table (failure.Script fault) parted table_is fails = record { config = config; script = script; parted = parted; table = table; table_is = table_is; fault_is = fails }
  script_has text config script table failure.NoMemory parted table_is fails = tt
  script_has text config script table why parted table_is fails = absurd fails

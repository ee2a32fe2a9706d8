-- The output of `distac check`.
use Rattle.std.specs.Prelude.{◌≡◌, ℕ, ◌<◌, List, length, Option, Err}
use Rattle.std.specs.Io.KnownBytes.{Appends}
use Rattle.dac_config.specs.Table.{Table}
use Rattle.dac_config.specs.Says.{IsConfigOf}
use Rattle.dac_config.specs.Reading.{config_at}
use Rattle.dac_config.specs.Canonical.{canonical_text}
use Rattle.dac_script.specs.declared.failure.Failure.{Failure}
use Rattle.dac_script.specs.declared.failure.Failure.TheVariants as failure
use Rattle.dac_script.specs.declared.fault.InputFault.TheVariants.{TooLong, NoScript, Read}
use Rattle.dac_script.specs.Input.{IsTaken}
use Rattle.dac_script.specs.declared.input.TheConstants.{MAX_INPUT}
use Rattle.dac_play.specs.declared.ending.Ending.{Ending}
use Rattle.dac_play.specs.Endings.{Ends}

-- the bytes aren't too long, and text is the canonical text of the configuration in them
pub record IsCanonicalOf (bytes text : List ℕ) : Type 0 where
  pub taken : IsTaken bytes
  pub table : Table
  pub says : IsConfigOf bytes table
  pub text_is : text ≡ canonical_text table

-- Why an input isn't checked. The configuration is read only if the input isn't too long. A failed read or allocation
-- says nothing about it.
abbrev pub IsUnchecked : List ℕ → Failure → Type 0
IsUnchecked bytes (failure.Input TooLong) = MAX_INPUT < length bytes
IsUnchecked bytes (failure.Input NoScript) = ⊥
IsUnchecked bytes (failure.Input Read) = Unit {0}
IsUnchecked bytes (failure.Config fault) = IsTaken bytes × (config_at bytes ≡ Err fault)
IsUnchecked bytes (failure.Script fault) = ⊥
IsUnchecked bytes failure.NoMemory = Unit {0}

-- the canonical text of the input was printed
pub record IsChecked (bytes : List ℕ) (old new : Option (List ℕ)) : Type 0 where
  pub text : List ℕ
  pub canonical : IsCanonicalOf bytes text
  pub printed : Appends old new text

-- how `distac check` ends on an input with these bytes
abbrev pub EndsCheck : List ℕ → Ending → Option (List ℕ) → Option (List ℕ) → Type 0
EndsCheck bytes = Ends (IsChecked bytes) (IsUnchecked bytes)

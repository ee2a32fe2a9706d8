-- A reader whose reads are counted.
use Rattle.std.specs.Prelude.{◌≡◌, ◌≢◌, ◌⊎◌, ℕ, ◌<◌, List, Option, Result, MatchResult}
use Rattle.dac_script.specs.declared.failure.Failure.{Failure}
use Rattle.dac_script.specs.declared.failure.Failure.TheVariants as failure
use Rattle.dac_script.specs.declared.fault.InputFault.TheVariants.{TooLong, NoScript, Read}
use Rattle.dac_script.specs.declared.source.TheConstants.{MAX_READS}
use Rattle.dac_script.specs.declared.source.Progress.{Progress}
use Rattle.dac_script.specs.declared.source.Progress.TheVariants.{Open, Ended, Failed}

-- A reader: its identity in proofs, its remaining bytes if known, and the number and outcome of the reads so far.
pub record Sourced : Type 0 where
  pub reader : ℕ
  pub left : Option (List ℕ)
  pub reads : ℕ
  pub progress : Progress

-- no read so far
abbrev pub unread : ℕ → Option (List ℕ) → Sourced
unread reader left = record { reader = reader; left = left; reads = 0; progress = Open }

-- another read is allowed
abbrev pub IsOpen : Sourced → Type 0
IsOpen source = (source.progress ≡ Open) × (source.reads < MAX_READS)

-- a read failed, or the allowed reads are used up without an end
abbrev pub IsGivenUp : Sourced → Type 0
IsGivenUp source = (source.progress ≡ Failed) ⊎ ((source.progress ≡ Open) × (source.reads ≡ MAX_READS))

-- The reader after a failure. `Read` occurs only if the reader was given up. An input that is too long isn't read to
-- its end, and its contents are checked only after its end. A failed allocation never hides a failed read.
abbrev pub IsLeftBy : Failure → Sourced → Type 0
IsLeftBy (failure.Input TooLong) source = source.progress ≡ Open
IsLeftBy (failure.Input NoScript) source = source.progress ≡ Ended
IsLeftBy (failure.Input Read) source = IsGivenUp source
IsLeftBy (failure.Config fault) source = source.progress ≡ Ended
IsLeftBy (failure.Script fault) source = source.progress ≡ Ended
IsLeftBy failure.NoMemory source = source.progress ≢ Failed

-- the reader after a success or a failure
abbrev pub IsReadBy : {T : Type 0} → Result T Failure → Sourced → Type 0
IsReadBy result source = MatchResult result (λ _. source.progress ≡ Ended) (λ why. IsLeftBy why source)

-- The endings of a command.
use Rattle.std.specs.Prelude.{◌≡◌, ℕ, List, Option, IfSome}
use Rattle.std.specs.Io.KnownBytes.{Appends}
use Rattle.dac_script.specs.declared.failure.Failure.{Failure}
use Rattle.dac_script.specs.declared.source.Progress.TheVariants.{Ended}
use Rattle.dac_script.specs.Sources.{Sourced, IsLeftBy}
use Rattle.dac_play.specs.declared.ending.Ending.{Ending}
use Rattle.dac_play.specs.declared.ending.Ending.TheVariants as ending
use Rattle.dac_play.specs.Texts.{failure_text}

-- the exit status of an ending
abbrev pub status_of : Ending → ℕ
status_of ending.Done = 0
status_of (ending.Refused why) = 1
status_of ending.Stopped = 1

-- the line of this failure was printed and nothing was run, unless an allocation or a write failed
abbrev pub IsRefusal : Failure → Ending → Option (List ℕ) → Option (List ℕ) → Type 0
IsRefusal failure ending.Done old new = ⊥
IsRefusal failure (ending.Refused why) old new = (why ≡ failure) × Appends old new (failure_text failure)
IsRefusal failure ending.Stopped old new = Unit {0}

-- A command succeeded (`Well`), or was refused for a failure of its input (`Fails`) whose line was printed. After
-- `Stopped`, by a failed allocation or write, nothing is guaranteed.
abbrev pub Ends : (Option (List ℕ) → Option (List ℕ) → Type 0) → (Failure → Type 0) → Ending → Option (List ℕ)
    → Option (List ℕ) → Type 0
Ends Well Fails ending.Done old new = Well old new
Ends Well Fails (ending.Refused why) old new = Fails why × Appends old new (failure_text why)
Ends Well Fails ending.Stopped old new = Unit {0}

-- The source after each ending: read to its end after `Done`, as the failure determines after `Refused`. Therefore
-- `Read` occurs only if the source was given up.
abbrev pub IsLeftAt : Ending → Sourced → Type 0
IsLeftAt ending.Done source = source.progress ≡ Ended
IsLeftAt (ending.Refused why) source = IsLeftBy why source
IsLeftAt ending.Stopped source = Unit {0}

-- status is that of an ending which is correct for the input's bytes, if they are known
pub record EndsWith (Ending_of : List ℕ → Ending → Type 0) (had : Option (List ℕ)) (status : ℕ) : Type 0 where
  pub ending : Ending
  pub status_is : status ≡ status_of ending
  pub ends : IfSome had (λ bytes. Ending_of bytes ending)

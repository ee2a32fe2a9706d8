-- Reading and splitting a whole input.
use Rattle.std.specs.Prelude.{◌≡◌, ◌≢◌, ℕ, ◌+◌, ◌<◌, ◌≤◌, List, [], ◌∷◌, ◌++◌, length, All, Option, Result, OnOk, IfSome, codes, ◌==◌}
use Rattle.std.specs.List.{join_with_byte, position_or_len}
use Rattle.std.specs.Io.KnownBytes.{Consumes}
use Rattle.dac_script.specs.declared.failure.Failure.{Failure}
use Rattle.dac_script.specs.declared.failure.Failure.TheVariants as failure
use Rattle.dac_script.specs.declared.fault.InputFault.TheVariants.{TooLong, NoScript, Read}
use Rattle.dac_script.specs.declared.input.TheConstants.{MAX_INPUT}
use Rattle.dac_script.specs.Script.{lines_of}

-- the input isn't too long
abbrev pub IsTaken : List ℕ → Type 0
IsTaken bytes = length bytes ≤ MAX_INPUT

-- the line between configuration and script
abbrev pub divider : List ℕ
divider = codes "--"

-- the length of the first line, without its line feed
abbrev pub line_len : List ℕ → ℕ
line_len text = position_or_len (λ b. b == 10) text

-- lines, each with its line feed
abbrev pub with_feeds : List (List ℕ) → List ℕ
with_feeds [] = []
with_feeds (line ∷ lines) = line ++ 10 ∷ with_feeds lines

-- The text is split at its first divider: the lines before it are the configuration, those after it the script.
pub record IsParted (text config script : List ℕ) : Type 0 where
  pub before : List (List ℕ)
  pub behind : List (List ℕ)
  pub lines : lines_of text ≡ before ++ divider ∷ behind
  pub first : All (λ line. line ≢ divider) before
  pub config_is : config ≡ with_feeds before
  pub script_is : script ≡ join_with_byte 10 behind

-- the reader returned at most room bytes, and they were appended unless the call failed
pub record Takes {T E : Type 0} (had left : Option (List ℕ)) (room : ℕ) (old new : List ℕ)
    (result : Result T E) : Type 0 where
  pub bytes : List ℕ
  pub taken : Consumes had left bytes
  pub few : length bytes ≤ room
  pub kept : OnOk result (new ≡ old ++ bytes)

-- Why an input of at most `most` bytes isn't read to its end: it's longer, a read failed, or an allocation failed.
abbrev pub IsReadFailure : ℕ → Option (List ℕ) → Failure → Type 0
IsReadFailure most had (failure.Input TooLong) = IfSome had (λ bytes. most < length bytes)
IsReadFailure most had (failure.Input NoScript) = ⊥
IsReadFailure most had (failure.Input Read) = Unit {0}
IsReadFailure most had (failure.Config fault) = ⊥
IsReadFailure most had (failure.Script fault) = ⊥
IsReadFailure most had failure.NoMemory = Unit {0}

-- the reader returned at most this many bytes
pub record TakesAtMost (had left : Option (List ℕ)) (most : ℕ) : Type 0 where
  pub bytes : List ℕ
  pub taken : Consumes had left bytes
  pub few : length bytes ≤ most

-- whatever the result, at most one byte beyond the bound was read
abbrev pub IsReadWithinBound : Option (List ℕ) → Option (List ℕ) → Type 0
IsReadWithinBound had left = TakesAtMost had left (MAX_INPUT + 1)

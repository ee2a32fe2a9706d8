-- The faults of a line of `live`, independent of any reader: the first words determine the roles of the others.
use Rattle.std.specs.Prelude.{◌≡◌, ◌≢◌, ◌⊎◌, ℕ, List, [], ◌∷◌, Option, Some, None, codes, if◌then◌else◌, option_map}
use Rattle.std.specs.Option.{MatchOption}
use Rattle.std.specs.List.{AllPass}
use Rattle.std.specs.Str.{bytes_eq}
use Rattle.std.specs.Char.{is_ascii_digit}
use Rattle.dac_config.specs.Table.{Table}
use Rattle.dac_script.specs.declared.fault.ScriptFaultKind.{ScriptFaultKind}
use Rattle.dac_script.specs.declared.fault.ScriptFaultKind.TheVariants.{BadWord, BadCount, BadNumber}
use Rattle.dac_script.specs.declared.verb.Role.{Role}
use Rattle.dac_script.specs.declared.verb.Role.TheVariants.{Actor, Hex}
use Rattle.dac_script.specs.LineFaults.{ask_roles, AreWrong}
use Rattle.dac_script.specs.Verbs.{ask_of}

-- the roles after `phase` and `feed`, the lines without a caller
abbrev pub plain_roles : List ℕ → Option (List Role)
plain_roles first =
    if bytes_eq first (codes "phase") then Some []
    else (if bytes_eq first (codes "feed") then Some (Hex ∷ [])
    else None)

-- the roles after `read` or a request
abbrev pub asked_roles : List ℕ → Option (List Role)
asked_roles word = if bytes_eq word (codes "read") then Some (Actor ∷ []) else option_map ask_roles (ask_of word)

-- a first word in the place of a caller's number: only digits
abbrev pub IsForCaller : List ℕ → Type 0
IsForCaller word = AllPass is_ascii_digit word

-- not a caller's number, which is one digit from 1 to 4
abbrev pub IsNoCaller : List ℕ → Type 0
IsNoCaller word = (word ≢ codes "1") × (word ≢ codes "2") × (word ≢ codes "3") × (word ≢ codes "4")

-- The words after a caller's number have this fault: there are none, the first is neither `read` nor a request, or the
-- others have the fault.
abbrev pub IsAskedWrong : Table → List (List ℕ) → ScriptFaultKind → Type 0
IsAskedWrong table [] kind = kind ≡ BadCount
IsAskedWrong table (word ∷ words) kind =
    MatchOption (asked_roles word) (kind ≡ BadWord) (λ roles. AreWrong table roles words kind)

-- a caller's line has this fault: of its number, or of the words after it
abbrev pub IsCallerWrong : Table → List ℕ → List (List ℕ) → ScriptFaultKind → Type 0
IsCallerWrong table caller words kind = ((kind ≡ BadNumber) × IsNoCaller caller) ⊎ IsAskedWrong table words kind

-- a line with neither `phase` nor `feed` has this fault
abbrev pub IsOtherWrong : Table → List ℕ → List (List ℕ) → ScriptFaultKind → Type 0
IsOtherWrong table first words kind =
    ((kind ≡ BadWord) × ¬ IsForCaller first) ⊎ (IsForCaller first × IsCallerWrong table first words kind)

-- a line of these words has this fault
abbrev pub HasFault : Table → List (List ℕ) → ScriptFaultKind → Type 0
HasFault table [] kind = kind ≡ BadWord
HasFault table (first ∷ words) kind =
    MatchOption (plain_roles first) (IsOtherWrong table first words kind) (λ roles. AreWrong table roles words kind)

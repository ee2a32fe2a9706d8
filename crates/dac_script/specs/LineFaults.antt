-- The faults of a line, independent of any reader: the first word determines the role of each other word, and the role
-- its faults.
use Rattle.std.specs.Prelude.{◌≡◌, ◌≢◌, ◌⊎◌, ℕ, ◌≤◌, ◌%◌, List, [], ◌∷◌, length, codes, None}
use Rattle.std.specs.Option.{MatchOption, IsSomeAnd}
use Rattle.std.specs.List.{Any, AllPass, zip}
use Rattle.dac_config.specs.Table.{Table, node_named}
use Rattle.dac_script.specs.declared.fault.ScriptFaultKind.{ScriptFaultKind}
use Rattle.dac_script.specs.declared.fault.ScriptFaultKind.TheVariants.{BadWord, BadCount, BadName, BadNumber, UnknownActor, BadHex}
use Rattle.dac_script.specs.declared.verb.Ask.{Ask}
use Rattle.dac_script.specs.declared.verb.Ask.TheVariants as ask
use Rattle.dac_script.specs.declared.verb.Role.{Role}
use Rattle.dac_script.specs.declared.verb.Role.TheVariants.{Actor, Other, Application, About, Number, Flag, Hex}
use Rattle.dac_script.specs.declared.verb.Verb.{Verb}
use Rattle.dac_script.specs.declared.verb.Verb.TheVariants as verb
use Rattle.dac_script.specs.Faults.{script_number}
use Rattle.dac_script.specs.Words.{name_in, number_in, is_small_digit}
use Rattle.dac_script.specs.Verbs.{verb_of}

-- the roles of the words after a request
abbrev pub ask_roles : Ask → List Role
ask_roles ask.Boot = Actor ∷ Number ∷ []
ask_roles ask.Crash = Actor ∷ []
ask_roles ask.Tick = Actor ∷ Number ∷ []
ask_roles ask.Down = Actor ∷ About ∷ []
ask_roles ask.Permit = Actor ∷ Application ∷ About ∷ Flag ∷ []
ask_roles ask.Start = Actor ∷ Application ∷ About ∷ []
ask_roles ask.Stop = Actor ∷ Application ∷ About ∷ []
ask_roles ask.Drain = Actor ∷ About ∷ Flag ∷ []
ask_roles ask.Takeover = Actor ∷ Application ∷ []

-- the roles of the words after the first one
abbrev pub roles_of : Verb → List Role
roles_of (verb.Ask request) = ask_roles request
roles_of verb.Ship = Actor ∷ About ∷ []
roles_of verb.Hear = Actor ∷ Number ∷ []
roles_of verb.Hand = Actor ∷ Number ∷ []
roles_of verb.Share = []
roles_of verb.Page = Actor ∷ []
roles_of verb.State = Actor ∷ []
roles_of verb.Same = Actor ∷ Other ∷ []
roles_of verb.Bytes = Number ∷ []
roles_of verb.Feed = Hex ∷ []

-- no role in the list is sought
abbrev pub IsOutside : Role → List Role → Type 0
IsOutside sought [] = Unit {0}
IsOutside sought (role ∷ roles) = (sought ≢ role) × IsOutside sought roles

-- no role occurs twice
abbrev pub AreDistinct : List Role → Type 0
AreDistinct [] = Unit {0}
AreDistinct (role ∷ roles) = IsOutside role roles × AreDistinct roles

-- neither `true` nor `false`, without quotes
abbrev pub IsNoFlag : List ℕ → Type 0
IsNoFlag word = (word ≢ codes "true") × (word ≢ codes "false")

-- an odd number of characters, or one that isn't 0 to 9 or a to f
abbrev pub IsNoHex : List ℕ → Type 0
IsNoHex word = (length word % 2 ≡ 1) ⊎ (¬ AllPass is_small_digit word)

-- the fault of a word that names no configured node
abbrev pub IsNoNode : Table → List ℕ → ScriptFaultKind → Type 0
IsNoNode table word kind = ((kind ≡ BadName) × (name_in word ≡ None))
    ⊎ ((kind ≡ UnknownActor) × IsSomeAnd (name_in word) (λ name. node_named table name ≡ None))

-- A word has this fault in its role. Only acting nodes, and nodes that are compared, must be configured.
abbrev pub IsWrong : Table → Role → List ℕ → ScriptFaultKind → Type 0
IsWrong table Actor word kind = IsNoNode table word kind
IsWrong table Other word kind = IsNoNode table word kind
IsWrong table Application word kind = (kind ≡ BadName) × (name_in word ≡ None)
IsWrong table About word kind = (kind ≡ BadName) × (name_in word ≡ None)
IsWrong table Number word kind = (kind ≡ BadNumber) × (number_in word ≡ None)
IsWrong table Flag word kind = (kind ≡ BadName) × IsNoFlag word
IsWrong table Hex word kind = (kind ≡ BadHex) × IsNoHex word

-- one of the words has this fault in its role
abbrev pub IsAnyWrong : Table → List Role → List (List ℕ) → ScriptFaultKind → Type 0
IsAnyWrong table roles words kind = Any (λ (both : Role × List ℕ). IsWrong table both.0 both.1 kind) (zip roles words)

-- The words have this fault in these roles: the wrong number of words, or the fault of one of them.
abbrev pub AreWrong : Table → List Role → List (List ℕ) → ScriptFaultKind → Type 0
AreWrong table roles words kind = ((kind ≡ BadCount) × (length words ≢ length roles)) ⊎ IsAnyWrong table roles words kind

-- a line of these words has this fault
abbrev pub HasFault : Table → List (List ℕ) → ScriptFaultKind → Type 0
HasFault table [] kind = kind ≡ BadWord
HasFault table (first ∷ words) kind =
    MatchOption (verb_of first) (kind ≡ BadWord) (λ verb. AreWrong table (roles_of verb) words kind)

-- there is no fault
abbrev pub IsFaultless : (ScriptFaultKind → Type 0) → Type 0
IsFaultless P = (kind : ScriptFaultKind) → ¬ P kind

-- the least fault
pub record IsLeast (P : ScriptFaultKind → Type 0) (kind : ScriptFaultKind) : Type 0 where
  pub has : P kind
  pub least : (other : ScriptFaultKind) → P other → script_number kind ≤ script_number other

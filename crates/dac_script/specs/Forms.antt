-- The grammar of lines, independent of any reader: the words that spell each line, the texts of each word, and the
-- spaces between words.
use Rattle.std.specs.Prelude.{◌≡◌, ◌≢◌, ◌⊎◌, ℕ, ◌<◌, ◌≤◌, Bool, true, false, List, [], ◌∷◌, ◌++◌, length, All, Some, codes}
use Rattle.std.specs.Option.{MatchOption}
use Rattle.std.specs.List.{AllZip}
use Rattle.std.specs.Fmt.{decimal}
use Rattle.hex.specs.Hex.{encode_lower, IsBytes}
use Rattle.dac_base.specs.declared.NodeId.{NodeId}
use Rattle.dac_base.specs.declared.AppId.{AppId}
use Rattle.dac_tokens.specs.TokenGrammar.{Begins, IsBareAtom, IsQuoted}
use Rattle.dac_config.specs.Table.{Table, node_count, app_count, node_named, app_named}
use Rattle.dac_events.specs.declared.Command.{Command}
use Rattle.dac_events.specs.declared.Command.TheVariants as command
use Rattle.dac_events.specs.declared.What.{What}
use Rattle.dac_events.specs.declared.What.TheVariants as what
use Rattle.dac_script.specs.declared.words.TheConstants.{MAX_NUMBER}
use Rattle.dac_script.specs.declared.line.ScriptLine.{ScriptLine}
use Rattle.dac_script.specs.declared.line.ScriptLine.TheVariants as says

-- ---- words

-- A place in a line, with its value: a fixed word, an acting node, a node or an application concerned, a number, a
-- flag, or bytes.
pub data Slot : Type 0 where
  Word : List ℕ → Slot
  Node : NodeId → Slot
  About : NodeId → Slot
  App : AppId → Slot
  Number : ℕ → Slot
  Flag : Bool → Slot
  Hex : List ℕ → Slot

-- word is an atom with this name, bare or quoted
abbrev pub IsAtom : List ℕ → List ℕ → Type 0
IsAtom name word = ((word ≡ name) × IsBareAtom name) ⊎ IsQuoted name word

-- the node with this name, or the number past all nodes if none has it
abbrev pub IsNodeOf : Table → List ℕ → NodeId → Type 0
IsNodeOf table name node =
    MatchOption (node_named table name) (node ≡ record { 0 = node_count table }) (λ found. node ≡ found)

-- the application with this name, or the number past all applications if none has it
abbrev pub IsAppOf : Table → List ℕ → AppId → Type 0
IsAppOf table name app =
    MatchOption (app_named table name) (app ≡ record { 0 = app_count table }) (λ found. app ≡ found)

-- the words for `true` and `false`
abbrev pub flag_word : Bool → List ℕ
flag_word true = codes "true"
flag_word false = codes "false"

-- The word spells the value of its place. An acting node is configured. A number has no leading zero and is at most
-- MAX_NUMBER. A byte is two lower-case hexadecimal digits.
abbrev pub Tells : Table → Slot → List ℕ → Type 0
Tells table (Word text) word = word ≡ text
Tells table (Node node) word = (name : List ℕ) × IsAtom name word × (node_named table name ≡ Some node)
Tells table (About node) word = (name : List ℕ) × IsAtom name word × IsNodeOf table name node
Tells table (App app) word = (name : List ℕ) × IsAtom name word × IsAppOf table name app
Tells table (Number number) word = (word ≡ decimal number) × (number ≤ MAX_NUMBER)
Tells table (Flag value) word = word ≡ flag_word value
Tells table (Hex bytes) word = (word ≡ encode_lower bytes) × IsBytes bytes

-- there are as many words as places, and each spells its value
abbrev pub AllTell : Table → List Slot → List (List ℕ) → Type 0
AllTell table slots words = AllZip (Tells table) slots words

-- ---- lines

-- a command to a node
abbrev pub command_form : NodeId → Command → List Slot
command_form node (command.Down about) = Word (codes "down") ∷ Node node ∷ About about ∷ []
command_form node (command.Permit app about value) =
    Word (codes "permit") ∷ Node node ∷ App app ∷ About about ∷ Flag value ∷ []
command_form node (command.Start app about) =
    Word (codes "start") ∷ Node node ∷ App app ∷ About about ∷ []
command_form node (command.Stop app about) =
    Word (codes "stop") ∷ Node node ∷ App app ∷ About about ∷ []
command_form node (command.Drain about value) =
    Word (codes "drain") ∷ Node node ∷ About about ∷ Flag value ∷ []
command_form node (command.Takeover app) = Word (codes "takeover") ∷ Node node ∷ App app ∷ []

-- an event at a node
abbrev pub event_form : NodeId → What → List Slot
event_form node (what.Boot now) = Word (codes "boot") ∷ Node node ∷ Number now ∷ []
event_form node what.Crash = Word (codes "crash") ∷ Node node ∷ []
event_form node (what.Command given) = command_form node given
event_form node (what.Tick now) = Word (codes "tick") ∷ Node node ∷ Number now ∷ []
event_form node (what.Ship to) = Word (codes "ship") ∷ Node node ∷ About to ∷ []
event_form node (what.Deliver message) = Word (codes "hear") ∷ Node node ∷ Number message ∷ []
event_form node (what.Hand operation) = Word (codes "hand") ∷ Node node ∷ Number operation ∷ []

-- a line of a script
abbrev pub form_of : ScriptLine → List Slot
form_of (says.Event event) = event_form event.node event.what
form_of says.Share = Word (codes "share") ∷ []
form_of (says.Page node) = Word (codes "page") ∷ Node node ∷ []
form_of (says.State node) = Word (codes "state") ∷ Node node ∷ []
form_of (says.Same first second) = Word (codes "same") ∷ Node first ∷ Node second ∷ []
form_of (says.Bytes message) = Word (codes "bytes") ∷ Number message ∷ []
form_of (says.Feed bytes) = Word (codes "feed") ∷ Hex bytes ∷ []

-- the words spell the line
abbrev pub Spells : Table → ScriptLine → List (List ℕ) → Type 0
Spells table said words = AllTell table (form_of said) words

-- ---- words in a line

-- only spaces, or nothing
abbrev pub AreSpaces : List ℕ → Type 0
AreSpaces bytes = All (λ b. b ≡ 32) bytes

-- at least one byte, and no space
abbrev pub IsWord : List ℕ → Type 0
IsWord bytes = (0 < length bytes) × All (λ b. b ≢ 32) bytes

-- a word ends before these bytes: the line ends, or a space follows
abbrev pub EndsWord : List ℕ → Type 0
EndsWord behind = (behind ≡ []) ⊎ Begins (λ b. b ≡ 32) behind

-- The line consists of these words, separated by spaces, possibly with spaces before the first and after the last.
abbrev pub HasWords : List (List ℕ) → List ℕ → Type 0
HasWords [] line = AreSpaces line
HasWords (word ∷ words) line =
    (before behind : List ℕ) × (line ≡ before ++ (word ++ behind)) × AreSpaces before × IsWord word
    × EndsWord behind × HasWords words behind

-- The first fault of a text, as a law that mentions no reader.
use Rattle.std.specs.Prelude.{◌≡◌, ◌⊎◌, false, ℕ, ◌<◌, ◌≤◌, List, [], ◌∷◌, ◌++◌, length, map, All}
use Rattle.dac_tokens.specs.declared.fault.FaultKind.{FaultKind}
use Rattle.dac_tokens.specs.declared.fault.FaultKind.TheVariants.{TooLong, Unsupported, BadShape, NoDistributed, TwiceApp, TwiceInList, EmptyList, EmptyTuple, TooManyNodes, TooManyApps, NumberTooLarge, NameTooLong}
use Rattle.dac_tokens.specs.declared.fault.ConfigFault.{ConfigFault}
use Rattle.dac_tokens.specs.declared.token.Symbol.TheVariants.{OpenList, CloseList, OpenTuple, CloseTuple}
use Rattle.dac_tokens.specs.Words.{Word, Punctuation, Name, Number, Text, Located}
use Rattle.dac_tokens.specs.TokenGrammar.{AreTokensOf}
use Rattle.dac_tokens.specs.TokenFaults.{StopAt}
use Rattle.dac_shapes.specs.declared.limits.TheConstants.{MAX_NAME, MAX_TEXT}
use Rattle.dac_tokens.specs.Digits.{value_from}
use Rattle.dac_shapes.specs.Written.{Section, written, ms_bound}
use Rattle.dac_shapes.specs.Grammar.{IsFile}
use Rattle.dac_shapes.specs.Loose.{IsLooseFile}
use Rattle.dac_shapes.specs.Within.{AreWithinLimits, nodes_in}
use Rattle.dac_shapes.specs.Limits.{Keeps}

-- a name of at most MAX_NAME bytes
abbrev pub IsShortName : Word → Type 0
IsShortName word = (name : List ℕ) × (word ≡ Name name) × (length name ≤ MAX_NAME)

-- The faults that a token can cause at its own offset, which excludes those of empty brackets.
abbrev pub CanCause : FaultKind → Word → Type 0
CanCause BadShape word = Unit {0}
CanCause Unsupported word = word ≡ Text
CanCause NumberTooLarge word = (digits : List ℕ) × (word ≡ Number false digits) × (ms_bound ≤ value_from 0 digits)
CanCause NameTooLong word = (name : List ℕ) × (word ≡ Name name) × (MAX_NAME < length name)
CanCause TwiceApp word = IsShortName word
CanCause TwiceInList word = IsShortName word
CanCause TooManyApps word = IsShortName word
CanCause TooManyNodes word = IsShortName word
CanCause _ word = ⊥

-- A fault caused by the token t, after the tokens `before`. Its offset is that of t, or, for empty brackets, that of
-- the bracket before t, which t closes.
pub data IsLocatedAt (before : List Located) (t : Located) (e : ConfigFault) : Type 0 where
  Itself : e.at ≡ t.at → CanCause e.kind t.word → IsLocatedAt before t e
  InList : (front : List Located) (o : Located) → before ≡ front ++ o ∷ [] → o.word ≡ Punctuation OpenList
      → t.word ≡ Punctuation CloseList → e ≡ record { kind = EmptyList; at = o.at } → IsLocatedAt before t e
  InTuple : (front : List Located) (o : Located) → before ≡ front ++ o ∷ [] → o.word ≡ Punctuation OpenTuple
      → t.word ≡ Punctuation CloseTuple → e ≡ record { kind = EmptyTuple; at = o.at } → IsLocatedAt before t e

abbrev pub words : List Located → List Word
words ts = map (λ t. t.word) ts

-- these words are a file that keeps the limits
pub record IsFileWithinLimits (ws : List Word) : Type 0 where
  pub sections : List Section
  pub file : IsFile ws sections
  pub within : AreWithinLimits sections

-- some file with the property Keeps begins with these words
pub record CanBegin (Keeps : List Section → Type 0) (ws : List Word) : Type 0 where
  pub more : List Word
  pub sections : List Section
  pub file : IsFile (ws ++ more) sections
  pub keeps : Keeps sections

abbrev pub Anything : List Section → Type 0
Anything sections = Unit {0}

-- a word that is no name
abbrev pub IsNoName : Word → Type 0
IsNoName (Name name) = ⊥
IsNoName _ = Unit {0}

-- These words are a valid prefix: some file begins with them, and some file that keeps the limits begins with those up
-- to the last name. No file that keeps the limits need continue with the words after that name, for example with a
-- comma after MAX_APPS applications. A valid prefix contains no name that is the first to break a limit, and no token
-- with which no file continues.
pub record IsWell (ws : List Word) : Type 0 where
  pub goes_on : CanBegin Anything ws
  pub named : List Word
  pub rest : List Word
  pub parts : ws ≡ named ++ rest
  pub no_name : All IsNoName rest
  pub keeps : CanBegin AreWithinLimits named

-- ---- the fault that a token causes

-- the order in which limits count if a name breaks several
abbrev pub rank : FaultKind → ℕ
rank BadShape = 0
rank NameTooLong = 1
rank TwiceApp = 2
rank TwiceInList = 3
rank TooManyApps = 4
rank TooManyNodes = 5
rank _ = 6

-- only the limit of this fault
abbrev pub Only : FaultKind → FaultKind → Type 0
Only kind other = other ≡ kind

-- the limits that count before this one
abbrev pub Before : FaultKind → FaultKind → Type 0
Before kind other = rank other < rank kind

-- only a name causes a fault of this kind
abbrev pub IsOfName : FaultKind → Type 0
IsOfName NameTooLong = Unit {0}
IsOfName TwiceApp = Unit {0}
IsOfName TwiceInList = Unit {0}
IsOfName TooManyApps = Unit {0}
IsOfName TooManyNodes = Unit {0}
IsOfName _ = ⊥

-- A name at the end of these words first breaks the limit of this fault. No file that keeps the limit begins with them,
-- whatever others it breaks. Some file that keeps the limits before it does; this isn't required for BadShape.
pub record Breaks (ws : List Word) (kind : FaultKind) : Type 0 where
  pub broken : ¬ CanBegin (Keeps (Only kind)) ws
  pub first : IsOfName kind → CanBegin (Keeps (Before kind)) ws

abbrev pub NoKind : FaultKind → Type 0
NoKind kind = ⊥

-- A file begins with these words if three shapes are tolerated: empty lists and tuples of nodes, numbers that are too
-- large, and strings in place of a section
pub record CanBeginLoosely (ws : List Word) : Type 0 where
  pub more : List Word
  pub sections : List Section
  pub file : IsLooseFile NoKind (ws ++ more) sections

-- A token that is no name spoils a shape at the end of these words: no file continues with it, or only a loose one.
abbrev pub Spoils : List Word → FaultKind → Type 0
Spoils ws BadShape = ¬ CanBeginLoosely ws
Spoils ws _ = CanBeginLoosely ws

-- the last of these words causes a fault of this kind
abbrev pub Brings : Word → List Word → FaultKind → Type 0
Brings (Name name) ws kind = Breaks ws kind
Brings _ ws kind = Spoils ws kind

-- ---- the fault of a text

abbrev pub apps_in : List Section → ℕ
apps_in sections = length (written sections (nodes_in sections)).apps

-- a text begins with these tokens, and continues with any number of tokens up to its end or to a token fault
pub record BeginsWith (text : List ℕ) (ts : List Located) : Type 0 where
  pub rest : List Located
  pub is : AreTokensOf text (ts ++ rest) ⊎ ((e : ConfigFault) × StopAt 0 0 text (ts ++ rest) e)

-- The cause of a text's fault.
pub data IsFaultOf (text : List ℕ) (e : ConfigFault) : Type 0 where
  -- the text is too long
  Long : MAX_TEXT < length text → e ≡ record { kind = TooLong; at = MAX_TEXT } → IsFaultOf text e
  -- these tokens are a valid prefix, and no token begins after them
  NoToken : (before : List Located) → length text ≤ MAX_TEXT → IsWell (words before) → StopAt 0 0 text before e
      → IsFaultOf text e
  -- The tokens before t are a valid prefix, and with t they aren't. If t is a name, no file that keeps the limits
  -- begins with them; otherwise no file does.
  Token : (before : List Located) (t : Located) → length text ≤ MAX_TEXT → BeginsWith text (before ++ t ∷ [])
      → IsWell (words before) → ¬ IsWell (words before ++ t.word ∷ [])
      → Brings t.word (words before ++ t.word ∷ []) e.kind → IsLocatedAt before t e → IsFaultOf text e
  -- the text ends with a valid prefix that isn't a file
  Ends : (ts : List Located) → length text ≤ MAX_TEXT → AreTokensOf text ts → IsWell (words ts)
      → ((sections : List Section) → ¬ IsFile (words ts) sections) → e ≡ record { kind = BadShape; at = length text }
      → IsFaultOf text e
  -- the text is a file that keeps the limits but lists no application
  Nobody : (ts : List Located) → length text ≤ MAX_TEXT → AreTokensOf text ts → IsFileWithinLimits (words ts)
      → ((is : IsFileWithinLimits (words ts)) → apps_in is.sections ≡ 0) → e ≡ record { kind = NoDistributed; at = length text }
      → IsFaultOf text e

-- The grammar of configurations, on tokens. It refers to no reader.
use Rattle.std.specs.Prelude.{◌≡◌, ◌≢◌, ◌⊎◌, ℕ, ◌<◌, ◌≤◌, Bool, true, false, List, [], ◌∷◌, ◌++◌, length, map, All, codes}
use Rattle.dac_tokens.specs.declared.token.Symbol.{Symbol}
use Rattle.dac_tokens.specs.declared.token.Symbol.TheVariants.{OpenList, CloseList, OpenTuple, CloseTuple, Comma, FullStop}
use Rattle.dac_tokens.specs.TokenGrammar.{AreTokensOf}
use Rattle.dac_tokens.specs.Words.{Word, Punctuation, Name, Number, Text, Located}
use Rattle.dac_shapes.specs.declared.limits.TheConstants.{MAX_TEXT}
use Rattle.dac_shapes.specs.declared.param.ParamName.{ParamName}
use Rattle.dac_shapes.specs.declared.param.ParamName.TheVariants as named
use Rattle.dac_shapes.specs.declared.draft.SyncWait.{SyncWait}
use Rattle.dac_shapes.specs.declared.draft.SyncWait.TheVariants.{NoSync, Forever, Ms}
use Rattle.dac_shapes.specs.Written.{App, Permission, Param, Distributed, Permissions, Mandatory, Optional, Timeout, Section, Kernel, Written, spelled, written, ms_bound}
use Rattle.dac_tokens.specs.Digits.{value_from}
use Rattle.dac_shapes.specs.Within.{AreWithinLimits, nodes_in}

-- one or more items, each by `Is`, separated by commas
abbrev pub Parted : {A : Type 0} → (List Word → A → Type 0) → List Word → List A → Type 0
Parted Is words [] = ⊥
Parted Is words (x ∷ []) = Is words x
Parted Is words (x ∷ y ∷ ys) =
    (first rest : List Word) × (words ≡ first ++ Punctuation Comma ∷ rest) × Is first x × Parted Is rest (y ∷ ys)

-- words between two symbols
abbrev pub between : Symbol → List Word → Symbol → List Word
between left words right = Punctuation left ∷ words ++ Punctuation right ∷ []

-- no items, or items separated by commas
abbrev pub PartedOrNone : {A : Type 0} → (List Word → A → Type 0) → List Word → List A → Type 0
PartedOrNone Is words [] = words ≡ []
PartedOrNone Is words (x ∷ xs) = Parted Is words (x ∷ xs)

-- a list in brackets, which can be empty
abbrev pub IsListOf : {A : Type 0} → (List Word → A → Type 0) → List Word → List A → Type 0
IsListOf Is words xs = (inner : List Word) × (words ≡ between OpenList inner CloseList) × PartedOrNone Is inner xs

-- a pair of this name and a value
abbrev pub IsPair : List ℕ → (List Word → Type 0) → List Word → Type 0
IsPair name IsValue words = (value : List Word)
    × (words ≡ Punctuation OpenTuple ∷ Name name ∷ Punctuation Comma ∷ value ++ Punctuation CloseTuple ∷ []) × IsValue value

-- these two symbols are brackets
pub data AreBrackets : Symbol → Symbol → Type 0 where
  OfList : AreBrackets OpenList CloseList
  OfTuple : AreBrackets OpenTuple CloseTuple

mutual
  -- Any term: an atom, a number, one or more strings, which count as one, or brackets with any number of terms between
  -- them.
  pub data IsTerm : List Word → Type 0 where
    Atom : (name : List ℕ) → IsTerm (Name name ∷ [])
    Integer : (negative : Bool) (digits : List ℕ) → IsTerm (Number negative digits ∷ [])
    Strings : (more : List Word) → All (λ word. word ≡ Text) more → IsTerm (Text ∷ more)
    Empty : (left right : Symbol) → AreBrackets left right → IsTerm (between left [] right)
    Between : (left right : Symbol) (inner : List Word) → AreBrackets left right → AreTerms inner
        → IsTerm (between left inner right)

  -- one or more terms, separated by commas
  pub data AreTerms : List Word → Type 0 where
    One : (words : List Word) → IsTerm words → AreTerms words
    More : (first rest : List Word) → IsTerm first → AreTerms rest → AreTerms (first ++ Punctuation Comma ∷ rest)

-- a node, which is its name
abbrev pub IsNode : List Word → List ℕ → Type 0
IsNode words name = words ≡ Name name ∷ []

-- a single node, or a tuple of nodes
abbrev pub IsItem : List Word → List (List ℕ) → Type 0
IsItem words group =
    ((name : List ℕ) × (words ≡ Name name ∷ []) × (group ≡ name ∷ []))
    ⊎ ((inner : List Word) × (words ≡ between OpenTuple inner CloseTuple) × Parted IsNode inner group)

-- a node list, which must not be empty
abbrev pub IsNodeList : List Word → List (List (List ℕ)) → Type 0
IsNodeList words groups = (inner : List Word) × (words ≡ between OpenList inner CloseList) × Parted IsItem inner groups

-- this token is a number of milliseconds that is not negative and below the bound
abbrev pub IsMs : Word → ℕ → Type 0
IsMs word n = (negative : Bool) × (digits : List ℕ) × (word ≡ Number negative digits) × (n ≡ value_from 0 digits)
    × (n < ms_bound) × (negative ≡ true → n ≡ 0)

-- `true` or `false`
abbrev pub IsFlag : List Word → Bool → Type 0
IsFlag words true = words ≡ Name (codes "true") ∷ []
IsFlag words false = words ≡ Name (codes "false") ∷ []

-- a permission, as a pair of the name of an application and a flag
abbrev pub IsPermission : List Word → Permission → Type 0
IsPermission words permission = IsPair permission.name (λ value. IsFlag value permission.value) words

-- a section that is ignored: a pair of any name other than `kernel` and any term
abbrev pub IsOtherSection : List Word → Type 0
IsOtherSection words = (name : List ℕ) × (name ≢ codes "kernel") × IsPair name IsTerm words

-- The shapes of node lists, numbers of milliseconds and ignored sections. The shapes below take them as a parameter,
-- because laws on faults replace them by looser ones.
pub record Parts : Type 1 where
  pub IsNodes : List Word → List (List (List ℕ)) → Type 0
  pub IsNumber : Word → ℕ → Type 0
  pub IsIgnored : List Word → Type 0

-- those of a file, as defined above
abbrev pub strict : Parts
strict = record { IsNodes = IsNodeList; IsNumber = IsMs; IsIgnored = IsOtherSection }

module _ (parts : Parts) where
  -- nothing, for 0, or a number and a comma
  abbrev pub IsTimeout : List Word → ℕ → Type 0
  IsTimeout words n =
      ((words ≡ []) × (n ≡ 0))
      ⊎ ((word : Word) × (words ≡ word ∷ Punctuation Comma ∷ []) × parts.IsNumber word n)

  -- the value of an application: its timeout, if written, and its node list
  abbrev pub IsAppValue : List Word → App → Type 0
  IsAppValue words app = (timeout list : List Word) × (words ≡ timeout ++ list)
      × IsTimeout timeout app.timeout × parts.IsNodes list app.groups

  -- an application, as a pair of its name and its value
  abbrev pub IsApp : List Word → App → Type 0
  IsApp words app = IsPair app.name (λ value. IsAppValue value app) words

  -- a number, or `infinity`
  abbrev pub IsWait : List Word → SyncWait → Type 0
  IsWait words NoSync = ⊥
  IsWait words Forever = words ≡ Name (codes "infinity") ∷ []
  IsWait words (Ms n) = (word : Word) × (words ≡ word ∷ []) × parts.IsNumber word n

  -- A parameter, with a bare or quoted name. One that is ignored is a pair of any other name and any term.
  abbrev pub IsParam : List Word → Param → Type 0
  IsParam words (Distributed apps) = IsPair (spelled named.Distributed) (λ value. IsListOf IsApp value apps) words
  IsParam words (Permissions permissions) =
      IsPair (spelled named.Permissions) (λ value. IsListOf IsPermission value permissions) words
  IsParam words (Mandatory names) = IsPair (spelled named.Mandatory) (λ value. IsListOf IsNode value names) words
  IsParam words (Optional names) = IsPair (spelled named.Optional) (λ value. IsListOf IsNode value names) words
  IsParam words (Timeout wait) = IsPair (spelled named.Timeout) (λ value. IsWait value wait) words
  IsParam words Param.Other = (name : List ℕ) × ((known : ParamName) → name ≢ spelled known) × IsPair name IsTerm words

  -- the section `kernel` with these parameters, or one that is ignored
  abbrev pub IsSection : List Word → Section → Type 0
  IsSection words (Kernel params) = IsPair (codes "kernel") (λ value. IsListOf IsParam value params) words
  IsSection words Section.Other = parts.IsIgnored words

  -- a list of sections, and the full stop
  abbrev pub IsFileOf : List Word → List Section → Type 0
  IsFileOf words sections =
      (list : List Word) × (words ≡ list ++ Punctuation FullStop ∷ []) × IsListOf IsSection list sections

-- a file
abbrev pub IsFile : List Word → List Section → Type 0
IsFile words sections = IsFileOf strict words sections

-- A text of at most MAX_TEXT bytes spells this draft: its tokens form a file that keeps the limits and lists at least
-- one application.
pub record IsTextOf (text : List ℕ) (draft : Written) : Type 0 where
  pub short : length text ≤ MAX_TEXT
  pub tokens : List Located
  pub sections : List Section
  pub spelled : AreTokensOf text tokens
  pub file : IsFile (map (λ t. t.word) tokens) sections
  pub within : AreWithinLimits sections
  pub says : draft ≡ written sections (nodes_in sections)
  pub some : length draft.apps ≢ 0

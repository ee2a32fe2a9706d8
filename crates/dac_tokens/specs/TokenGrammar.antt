-- The grammar of tokens: which bytes spell which tokens, as a relation that refers to no reader.
use Rattle.std.specs.Prelude.{◌≡◌, ◌≢◌, ◌⊎◌, ℕ, ◌+◌, ◌-◌, ◌<◌, ◌≤◌, Bool, true, false, List, [], ◌∷◌, ◌++◌, length, All, codes, refl}
use Rattle.std.specs.Char.{IsAsciiDigit, IsAsciiLowercase, IsAsciiAlphanumeric}
use Rattle.dac_tokens.specs.declared.token.Symbol.{Symbol}
use Rattle.dac_tokens.specs.declared.token.Symbol.TheVariants.{OpenList, CloseList, OpenTuple, CloseTuple, Comma, FullStop}
use Rattle.dac_tokens.specs.declared.token.TheConstants.{MAX_DEPTH}
use Rattle.dac_tokens.specs.Words.{Word, Punctuation, Name, Number, Text, End, Located}

-- a space, or a control character below it
abbrev pub IsBlank : ℕ → Type 0
IsBlank b = b ≤ 32

-- a byte that begins a gap: a blank, or the percent sign of a comment
abbrev pub StartsGap : ℕ → Type 0
StartsGap b = IsBlank b ⊎ (b ≡ 37)

-- bytes within one line
abbrev pub IsLine : List ℕ → Type 0
IsLine bytes = All (λ b. b ≢ 10) bytes

-- the gap that can precede a token: blanks, and comments from a percent sign (37) to the line feed (10)
pub data IsGap : List ℕ → Type 0 where
  Nothing : IsGap []
  Blank : (b : ℕ) (more : List ℕ) → IsBlank b → IsGap more → IsGap (b ∷ more)
  Comment : (line more : List ℕ) → IsLine line → IsGap more → IsGap (37 ∷ (line ++ 10 ∷ more))

-- the gap that can follow the last token; its last comment can extend to the end of the text
pub data IsLastGap (bytes : List ℕ) : Type 0 where
  Closed : IsGap bytes → IsLastGap bytes
  Open : (gap line : List ℕ) → bytes ≡ gap ++ 37 ∷ line → IsGap gap → IsLine line → IsLastGap bytes

-- an ASCII letter or digit, `_` or `@`
abbrev pub IsNameByte : ℕ → Type 0
IsNameByte b = IsAsciiAlphanumeric b ⊎ (b ≡ 95) ⊎ (b ≡ 64)

-- the first byte exists and has the property P
abbrev pub Begins : (ℕ → Type 0) → List ℕ → Type 0
Begins P [] = ⊥
Begins P (b ∷ bs) = P b

-- a small letter, then letters, digits, `_` and `@`; but not `fun`, which begins a function
pub record IsBareAtom (bytes : List ℕ) : Type 0 where
  pub begins : Begins IsAsciiLowercase bytes
  pub goes_on : All IsNameByte bytes
  pub no_fun : bytes ≢ codes "fun"

-- a byte that a quoted atom can't contain: a control character or a backslash
abbrev pub IsUnquotable : ℕ → Type 0
IsUnquotable b = (b < 32) ⊎ (b ≡ 127) ⊎ (b ≡ 92)

-- a byte that a quoted atom can contain: any other except the quote
abbrev pub IsQuotable : ℕ → Type 0
IsQuotable b = (b ≢ 39) × (¬ IsUnquotable b)

-- one or more decimal digits
pub record IsDigits (bytes : List ℕ) : Type 0 where
  pub begins : Begins IsAsciiDigit bytes
  pub goes_on : All IsAsciiDigit bytes

abbrev pub bytes_of : Symbol → List ℕ
bytes_of OpenList = codes "["
bytes_of CloseList = codes "]"
bytes_of OpenTuple = codes "{"
bytes_of CloseTuple = codes "}"
bytes_of Comma = codes ","
bytes_of FullStop = codes "."

-- the bytes of a number: its digits, after a minus if it is negative
abbrev pub IsNumber : Bool → List ℕ → List ℕ → Type 0
IsNumber false digits own = (own ≡ digits) × IsDigits digits
IsNumber true digits own = (own ≡ codes "-" ++ digits) × IsDigits digits

-- the number before these bytes continues, or has another form: with a base, underscores or a fraction
abbrev pub ContinuesAsNumber : List ℕ → Type 0
ContinuesAsNumber [] = ⊥
ContinuesAsNumber (b ∷ bs) = IsAsciiDigit b ⊎ (b ≡ 35) ⊎ (b ≡ 95) ⊎ ((b ≡ 46) × Begins IsAsciiDigit bs)

-- a dot before these bytes is a full stop: a gap begins, or the text ends
abbrev pub EndsTerm : List ℕ → Type 0
EndsTerm rest = (rest ≡ []) ⊎ Begins StartsGap rest

-- the bytes of an atom without quotes, as long as possible
abbrev pub IsBare : List ℕ → List ℕ → List ℕ → Type 0
IsBare name own rest = (own ≡ name) × IsBareAtom name × (¬ Begins IsNameByte rest)

-- the bytes of an atom between quotes
abbrev pub IsQuoted : List ℕ → List ℕ → Type 0
IsQuoted name own = (own ≡ codes "'" ++ (name ++ codes "'")) × All IsQuotable name

-- The bytes between the quotes of a string. A backslash (92) escapes the next byte, which must not be `^` (94). Any
-- other byte except a double quote (34) is allowed.
pub data IsStringText : List ℕ → Type 0 where
  Empty : IsStringText []
  Plain : (b : ℕ) (more : List ℕ) → b ≢ 34 → b ≢ 92 → IsStringText more → IsStringText (b ∷ more)
  Escape : (b : ℕ) (more : List ℕ) → b ≢ 94 → IsStringText more → IsStringText (92 ∷ b ∷ more)

-- the bytes of a string; an empty one must not be followed by a third double quote
pub record IsString (own rest : List ℕ) : Type 0 where
  pub inner : List ℕ
  pub parts : own ≡ 34 ∷ (inner ++ 34 ∷ [])
  pub is_text : IsStringText inner
  pub no_third : inner ≡ [] → ¬ Begins (λ b. b ≡ 34) rest

-- The bytes of a token itself, given the bytes after it. A number, like an atom, is as long as possible.
abbrev pub Spells : Word → List ℕ → List ℕ → Type 0
Spells (Punctuation FullStop) own rest = (own ≡ codes ".") × EndsTerm rest
Spells (Punctuation symbol) own rest = own ≡ bytes_of symbol
Spells (Name name) own rest = IsBare name own rest ⊎ IsQuoted name own
Spells (Number negative digits) own rest = IsNumber negative digits own × (¬ ContinuesAsNumber rest)
Spells Text own rest = IsString own rest
Spells End own rest = ⊥

-- The first token of bytes that begin at the offset `at`, its own bytes, and the rest after it. A gap can precede it.
-- Its offset counts the bytes before its own.
pub record IsNextToken (at : ℕ) (bytes : List ℕ) (t : Located) (own rest : List ℕ) : Type 0 where
  pub gap : List ℕ
  pub parts : bytes ≡ gap ++ (own ++ rest)
  pub is_gap : IsGap gap
  pub offset : t.at ≡ at + length gap
  pub spelled : Spells t.word own rest

-- bytes that begin at the offset `at` are these tokens in sequence, followed by at most a gap
abbrev pub AreSpelled : ℕ → List ℕ → List Located → Type 0
AreSpelled at bytes [] = IsLastGap bytes
AreSpelled at bytes (t ∷ ts) =
    (own rest : List ℕ) × IsNextToken at bytes t own rest × AreSpelled (t.at + length own) rest ts

-- fixes the limit of open brackets, so that it can't change unnoticed
pub the_limit : MAX_DEPTH ≡ 64
the_limit = refl

-- the number of brackets open after a token, given the number before it
abbrev pub depth_after_word : ℕ → Word → ℕ
depth_after_word depth (Punctuation OpenList) = depth + 1
depth_after_word depth (Punctuation OpenTuple) = depth + 1
depth_after_word depth (Punctuation CloseList) = depth - 1
depth_after_word depth (Punctuation CloseTuple) = depth - 1
depth_after_word depth _ = depth

-- after each token at most MAX_DEPTH brackets are open
abbrev pub NestWell : ℕ → List Located → Type 0
NestWell depth [] = Unit {0}
NestWell depth (t ∷ ts) = (depth_after_word depth t.word ≤ MAX_DEPTH) × NestWell (depth_after_word depth t.word) ts

-- the whole text is these tokens
pub record AreTokensOf (text : List ℕ) (tokens : List Located) : Type 0 where
  pub spelled : AreSpelled 0 text tokens
  pub nested : NestWell 0 tokens

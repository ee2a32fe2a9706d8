-- The table of token faults: where no token begins, and why. It refers to no reader.
use Rattle.std.specs.Prelude.{◌≡◌, ◌≢◌, ◌⊎◌, ℕ, ◌+◌, ◌≤◌, Bool, List, [], ◌∷◌, ◌++◌, length, All, codes}
use Rattle.std.specs.Char.{IsAsciiDigit, IsAsciiLowercase}
use Rattle.dac_tokens.specs.declared.fault.FaultKind.{FaultKind}
use Rattle.dac_tokens.specs.declared.fault.FaultKind.TheVariants.{BadToken, Unsupported}
use Rattle.dac_tokens.specs.declared.fault.ConfigFault.{ConfigFault}
use Rattle.dac_tokens.specs.declared.token.Symbol.{Symbol}
use Rattle.dac_tokens.specs.declared.token.TheConstants.{MAX_DEPTH}
use Rattle.dac_tokens.specs.Words.{Located}
use Rattle.dac_tokens.specs.TokenGrammar.{StartsGap, IsGap, IsNameByte, IsQuotable, IsUnquotable, Begins, bytes_of, IsNumber, ContinuesAsNumber, EndsTerm, IsStringText, IsNextToken, depth_after_word}

-- an opening bracket
abbrev pub IsOpeningBracket : ℕ → Type 0
IsOpeningBracket b = (b ≡ 91) ⊎ (b ≡ 123)

-- a byte that begins Erlang syntax that isn't read here: `<`, `#`, `$`, `+`, `~`, `|`, or one beyond ASCII
abbrev pub IsRefused : ℕ → Type 0
IsRefused b =
    (b ≡ 60) ⊎ (b ≡ 35) ⊎ (b ≡ 36) ⊎ (b ≡ 43) ⊎ (b ≡ 126) ⊎ (b ≡ 124) ⊎ (128 ≤ b)

-- a byte that begins nothing
pub record IsUnknown (b : ℕ) : Type 0 where
  pub no_gap : ¬ StartsGap b
  pub no_mark : (symbol : Symbol) → b ∷ [] ≢ bytes_of symbol
  pub no_letter : ¬ IsAsciiLowercase b
  pub no_digit : ¬ IsAsciiDigit b
  pub no_minus : b ≢ 45
  pub no_quote : b ≢ 39
  pub no_double_quote : b ≢ 34
  pub no_refused : ¬ IsRefused b

-- No token begins with these bytes, given `depth` open brackets. Relates them to the number of bytes before the fault,
-- and to its kind.
pub data NoToken (depth : ℕ) (bytes : List ℕ) : ℕ → FaultKind → Type 0 where
  LoneDot : (rest : List ℕ) → bytes ≡ codes "." ++ rest → ¬ EndsTerm rest → NoToken depth bytes 0 BadToken
  LoneMinus : (rest : List ℕ) → bytes ≡ codes "-" ++ rest → ¬ Begins IsAsciiDigit rest → NoToken depth bytes 0 BadToken
  Unknown : Begins IsUnknown bytes → NoToken depth bytes 0 BadToken
  Function : (rest : List ℕ) → bytes ≡ codes "fun" ++ rest → ¬ Begins IsNameByte rest
      → NoToken depth bytes 0 Unsupported
  OtherNumber : (negative : Bool) (digits own rest : List ℕ) → bytes ≡ own ++ rest → IsNumber negative digits own
      → ¬ Begins IsAsciiDigit rest → ContinuesAsNumber rest → NoToken depth bytes 0 Unsupported
  InQuotes : (name rest : List ℕ) → bytes ≡ codes "'" ++ (name ++ rest) → All IsQuotable name → Begins IsUnquotable rest
      → NoToken depth bytes (1 + length name) Unsupported
  NoQuote : (name : List ℕ) → bytes ≡ codes "'" ++ name → All IsQuotable name → NoToken depth bytes 0 BadToken
  ThreeQuotes : (rest : List ℕ) → bytes ≡ 34 ∷ 34 ∷ 34 ∷ rest → NoToken depth bytes 0 Unsupported
  ControlEscape : (inner rest : List ℕ) → bytes ≡ 34 ∷ (inner ++ 92 ∷ 94 ∷ rest) → IsStringText inner
      → NoToken depth bytes (1 + length inner) Unsupported
  NoDoubleQuote : (inner last : List ℕ) → bytes ≡ 34 ∷ (inner ++ last) → IsStringText inner
      → (last ≡ []) ⊎ (last ≡ 92 ∷ []) → NoToken depth bytes 0 BadToken
  Refused : Begins IsRefused bytes → NoToken depth bytes 0 Unsupported
  TooDeep : MAX_DEPTH ≤ depth → Begins IsOpeningBracket bytes → NoToken depth bytes 0 Unsupported

-- Bytes that begin at the offset `at` have this fault after a gap.
pub record IsFaultAt (at depth : ℕ) (bytes : List ℕ) (e : ConfigFault) : Type 0 where
  pub gap : List ℕ
  pub rest : List ℕ
  pub parts : bytes ≡ gap ++ rest
  pub is_gap : IsGap gap
  pub behind : ℕ
  pub offset : e.at ≡ at + length gap + behind
  pub fault : NoToken depth rest behind e.kind

-- bytes that begin at the offset `at`, with `depth` open brackets, are these tokens up to this fault
abbrev pub StopAt : ℕ → ℕ → List ℕ → List Located → ConfigFault → Type 0
StopAt at depth bytes [] e = IsFaultAt at depth bytes e
StopAt at depth bytes (t ∷ ts) e = (own rest : List ℕ) × IsNextToken at bytes t own rest
    × (depth_after_word depth t.word ≤ MAX_DEPTH) × StopAt (t.at + length own) (depth_after_word depth t.word) rest ts e

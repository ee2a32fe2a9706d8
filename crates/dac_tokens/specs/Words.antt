-- Tokens as values, independent of memory.
use Rattle.std.specs.Prelude.{ℕ, Bool, true, false, List}
use Rattle.dac_tokens.specs.declared.token.Symbol.{Symbol}
use Rattle.dac_tokens.specs.declared.token.Token.{Token}
use Rattle.dac_tokens.specs.declared.token.Token.TheVariants as tokens
use Rattle.dac_tokens.specs.declared.token.Located.{Located as LocatedToken}

-- A token: a symbol, an atom by its name, a number by its sign (true: negative) and digits, a string without its
-- contents, or the end of the text
pub data Word : Type 0 where
  Punctuation : Symbol → Word
  Name : List ℕ → Word
  Number : Bool → List ℕ → Word
  Text : Word
  End : Word

abbrev pub word_of : Token → Word
word_of (tokens.Symbol s) = Punctuation s
word_of (tokens.Atom name) = Name name.now
word_of (tokens.Number negative digits) = Number negative digits.now
word_of tokens.Text = Text
word_of tokens.End = End

abbrev pub is_end : Word → Bool
is_end End = true
is_end (Punctuation s) = false
is_end (Name name) = false
is_end (Number negative digits) = false
is_end Text = false

-- a token with the number of bytes before it
pub record Located : Type 0 where
  pub word : Word
  pub at : ℕ

abbrev pub located_of : LocatedToken → Located
located_of t = record { word = word_of t.token; at = t.at }

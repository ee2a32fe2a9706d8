-- The first token of a sequence of bytes, as a function.
use Rattle.std.specs.Prelude.{ℕ, ◌+◌, ◌-◌, Bool, true, false, not, ◌&&◌, ◌||◌, List, [], ◌∷◌, length, take, drop, Result, Ok, Err, nat_le, ◌==◌, if◌then◌else◌, codes}
use Rattle.std.specs.Str.{bytes_eq}
use Rattle.std.specs.List.{take_while}
use Rattle.std.specs.Char.{is_ascii_digit, is_ascii_alphanumeric}
use Rattle.dac_tokens.specs.declared.fault.FaultKind.TheVariants.{BadToken, Unsupported}
use Rattle.dac_tokens.specs.declared.fault.ConfigFault.{ConfigFault}
use Rattle.dac_tokens.specs.declared.token.Symbol.TheVariants.{OpenList, CloseList, OpenTuple, CloseTuple, Comma, FullStop}
use Rattle.dac_tokens.specs.declared.token.Class.{Class}
use Rattle.dac_tokens.specs.declared.token.Class.TheVariants as class
use Rattle.dac_tokens.specs.declared.token.Stretch.{Stretch}
use Rattle.dac_tokens.specs.declared.token.Stretch.TheVariants as kind
use Rattle.dac_tokens.specs.Words.{Word, Punctuation, Name, Number, Text, End}

-- the number of bytes at the front that pass
abbrev pub stretch : (ℕ → Bool) → List ℕ → ℕ
stretch passes bs = length (take_while passes bs)

-- a space, or a control character below it
abbrev pub is_blank : ℕ → Bool
is_blank b = nat_le b 32

-- the bytes from the first one that is neither blank nor in a comment, which extends to a line feed
abbrev pub after_gap : Bool → List ℕ → List ℕ
after_gap comment [] = []
after_gap true (b ∷ bs) = after_gap (not (b == 10)) bs
after_gap false (b ∷ bs) =
    if b == 37 then after_gap true bs
    else (if is_blank b then after_gap false bs
    else b ∷ bs)

-- the class of tokens that can begin with a byte
abbrev pub class_of : ℕ → Class
class_of b =
    if b == 91 then class.Bracket OpenList
    else (if b == 93 then class.Bracket CloseList
    else (if b == 123 then class.Bracket OpenTuple
    else (if b == 125 then class.Bracket CloseTuple
    else (if b == 44 then class.Comma
    else (if b == 46 then class.Dot
    else (if b == 45 then class.Minus
    else (if b == 39 then class.Quote
    else (if b == 34 then class.DoubleQuote
    else (if nat_le 97 b && nat_le b 122 then class.Letter
    else (if nat_le 48 b && nat_le b 57 then class.Digit
    else (if b == 60 || b == 35 || b == 36 || b == 43 || b == 126 || b == 124 || nat_le 128 b then class.Refused
    else class.Unknown)))))))))))

-- a byte that a bare atom can contain after its first
abbrev pub is_name_byte : ℕ → Bool
is_name_byte b = is_ascii_alphanumeric b || b == 95 || b == 64

-- a byte that a quoted atom can contain
abbrev pub is_quotable : ℕ → Bool
is_quotable b = nat_le 32 b && not (b == 127) && not (b == 39) && not (b == 92)

-- the bytes of each kind of stretch
abbrev pub goes_on : Stretch → ℕ → Bool
goes_on kind.Digits = is_ascii_digit
goes_on kind.Name = is_name_byte
goes_on kind.Quoted = is_quotable

-- a dot is a full stop if a blank, a comment or the end follows it
abbrev pub ends_stop : List ℕ → Bool
ends_stop [] = true
ends_stop (b ∷ bs) = nat_le b 32 || b == 37

-- whether a base, an underscore or a fraction follows the digits of a number
abbrev pub breaks_number : List ℕ → Bool
breaks_number [] = false
breaks_number (b ∷ []) = b == 35 || b == 95
breaks_number (b ∷ c ∷ bs) = b == 35 || b == 95 || (b == 46 && is_ascii_digit c)

-- the bare word `fun`, which is no atom
abbrev pub is_fun : List ℕ → Bool
is_fun name = bytes_eq name (codes "fun")

abbrev pub bad_token : {A : Type 0} → ℕ → Result A ConfigFault
bad_token at = Err (record { kind = BadToken; at = at })

abbrev pub unsupported : {A : Type 0} → ℕ → Result A ConfigFault
unsupported at = Err (record { kind = Unsupported; at = at })

-- the bare atom at the front, at offset `at`: the longest stretch of its bytes
abbrev pub atom_at : ℕ → List ℕ → Result (Word × List ℕ) ConfigFault
atom_at at bs =
    let n = stretch is_name_byte bs in
    if is_fun (take n bs) then unsupported at else Ok (Name (take n bs), drop n bs)

-- the quoted atom of this name; its opening quote is at `at`, and these bytes follow the name
abbrev pub closed_at : ℕ → List ℕ → List ℕ → Result (Word × List ℕ) ConfigFault
closed_at at name [] = bad_token at
closed_at at name (b ∷ rest) = if b == 39 then Ok (Name name, rest) else unsupported (at + 1 + length name)

-- the quoted atom whose opening quote, at `at`, precedes the bytes
abbrev pub quoted_at : ℕ → List ℕ → Result (Word × List ℕ) ConfigFault
quoted_at at bs =
    let n = stretch is_quotable bs in
    closed_at at (take n bs) (drop n bs)

-- whether two more double quotes follow a first one
abbrev pub two_quotes : List ℕ → Bool
two_quotes [] = false
two_quotes (b ∷ []) = false
two_quotes (b ∷ c ∷ bs) = b == 34 && c == 34

-- the rest of the string whose opening quote is at `at`, from the byte at `offset`, which a backslash can have escaped
abbrev pub inside_string : ℕ → ℕ → Bool → List ℕ → Result (Word × List ℕ) ConfigFault
inside_string at offset escaped [] = bad_token at
inside_string at offset escaped (b ∷ bs) =
    if escaped && b == 94 then unsupported (offset - 1)
    else (if not escaped && b == 34 then Ok (Text, bs)
    else inside_string at (offset + 1) (not escaped && b == 92) bs)

-- the string whose opening quote, at `at`, precedes the bytes
abbrev pub string_at : ℕ → List ℕ → Result (Word × List ℕ) ConfigFault
string_at at bs = if two_quotes bs then unsupported at else inside_string at (at + 1) false bs

-- the number at `at`, whose digits are at the front
abbrev pub number_at : ℕ → Bool → List ℕ → Result (Word × List ℕ) ConfigFault
number_at at negative bs =
    let n = stretch is_ascii_digit bs in
    if breaks_number (drop n bs) then unsupported at else Ok (Number negative (take n bs), drop n bs)

-- the digits after a minus at `at`
abbrev pub negative_at : ℕ → List ℕ → Result (Word × List ℕ) ConfigFault
negative_at at bs = if stretch is_ascii_digit bs == 0 then bad_token at else number_at at true bs

-- the token at `at` whose first byte is b, of this class, and which continues in bs
abbrev pub token_of : Class → ℕ → ℕ → List ℕ → Result (Word × List ℕ) ConfigFault
token_of (class.Bracket symbol) at b bs = Ok (Punctuation symbol, bs)
token_of class.Comma at b bs = Ok (Punctuation Comma, bs)
token_of class.Dot at b bs = if ends_stop bs then Ok (Punctuation FullStop, bs) else bad_token at
token_of class.Letter at b bs = atom_at at (b ∷ bs)
token_of class.Digit at b bs = number_at at false (b ∷ bs)
token_of class.Minus at b bs = negative_at at bs
token_of class.Quote at b bs = quoted_at at bs
token_of class.DoubleQuote at b bs = string_at at bs
token_of class.Refused at b bs = unsupported at
token_of class.Unknown at b bs = bad_token at

-- the token at the front, with no gap before it, and the bytes after it
unfoldable pub word_at : ℕ → List ℕ → Result (Word × List ℕ) ConfigFault
word_at at [] = Ok (End, [])
word_at at (b ∷ bs) = token_of (class_of b) at b bs

-- Words of a line, and values of words.
use Rattle.std.specs.Prelude.{ℕ, Bool, false, not, ◌&&◌, ◌||◌, List, [], ◌∷◌, length, take, filter, nat_le, ◌==◌, slice_index, if◌then◌else◌, Option, Some, None}
use Rattle.std.specs.List.{slice_split, list_all}
use Rattle.std.specs.Result.{result_ok}
use Rattle.std.specs.Char.{is_ascii_digit}
use Rattle.hex.specs.Hex.{decode_of}
use Rattle.dac_tokens.specs.Digits.{value_from}
use Rattle.dac_tokens.specs.Scan.{is_quotable}
use Rattle.dac_config.specs.Canonical.{is_bare}
use Rattle.dac_script.specs.declared.words.TheConstants.{MAX_NUMBER}

-- the words of a line are separated by spaces
abbrev pub words_of : List ℕ → List (List ℕ)
words_of line = filter (λ word. not (length word == 0)) (slice_split (λ b. b == 32) line)

-- the quotable text before a final quote
abbrev pub before_quote : List ℕ → Option (List ℕ)
before_quote [] = None
before_quote (b ∷ bs) = let name = take (length bs) (b ∷ bs) in if slice_index (b ∷ bs) (length bs) == 39 && list_all is_quotable name then Some name else None

-- the name in a quoted atom
abbrev pub quoted_name : List ℕ → Option (List ℕ)
quoted_name [] = None
quoted_name (b ∷ bs) = if b == 39 then before_quote bs else None

-- the name of an atom, bare or quoted
abbrev pub name_in : List ℕ → Option (List ℕ)
name_in word = if is_bare word then Some word else quoted_name word

-- decimal digits without a leading zero
abbrev pub is_digits : List ℕ → Bool
is_digits [] = false
is_digits (d ∷ []) = is_ascii_digit d
is_digits (d ∷ e ∷ ds) = not (d == 48) && list_all is_ascii_digit (d ∷ e ∷ ds)

-- the number, at most MAX_NUMBER
abbrev pub number_in : List ℕ → Option ℕ
number_in word = if is_digits word && nat_le (value_from 0 word) MAX_NUMBER then Some (value_from 0 word) else None

-- a lower-case hexadecimal digit
abbrev pub is_small_digit : ℕ → Bool
is_small_digit digit = is_ascii_digit digit || (nat_le 97 digit && nat_le digit 102)

-- the bytes, of two digits each
abbrev pub bytes_in : List ℕ → Option (List ℕ)
bytes_in word = if list_all is_small_digit word then result_ok (decode_of word) else None

-- A word spells bytes exactly if it has an even number of lower-case hexadecimal digits, and it is then the text of
-- those bytes.
use Rattle.std.proofs.Common.{◌≡◌, ℕ, zero, suc, ◌+◌, ◌-◌, ◌*◌, ◌/◌, ◌%◌, ◌<◌, Bool, true, false, cond, not, ◌&&◌, ◌||◌, List, [], ◌∷◌, length, leb, ltb, slice_index, ◌==◌, Some, None, Result, Ok, Err, refl, sym, ap, ◌∙◌, arith, inl, inr}
use Rattle.dac_script.specs.laws.Common.{list_all, and_from, and_parts, cases_eq, cond-true, eqb-true, ltb-true, not-true, nat_tests, AllPass-from_list_all, list_all-from_AllPass, none-some, same_Some, bytes_in, IsNoHex}
use Rattle.std.specs.Prelude.{slice_index_or}
use Rattle.std.specs.List.{AllPass}
use Rattle.std.specs.Result.{result_ok, result_unwrap_or}
use Rattle.std.proofs.lemmas.Bool.{agree_below_at, both_ways, or_cases}
use Rattle.hex.specs.Hex.{IsBytes, decode_of, encode_lower, encode_with, is_hex_digit, lower_digits}
use Rattle.hex.specs.declared.error.FromHexError.{FromHexError}
use Rattle.hex.proofs.HexLemmas.{decode_of-digits, decode_of-encode_lower, decode_of-ok}
use Rattle.dac_script.specs.Words.{is_small_digit}

-- a lower-case hexadecimal digit is a hexadecimal digit
is_digit : (digit : ℕ) → is_small_digit digit ≡ true → is_hex_digit digit ≡ true
is_digit digit small = grind (arith)

-- the bytes found are the decoded digits
decoded : (word bytes : List ℕ) (b : Bool) (r : Result (List ℕ) FromHexError) → cond b (result_ok r) None ≡ Some bytes → (b ≡ true) × (r ≡ Ok bytes)
decoded word bytes true (Ok xs) is = (refl, ap Ok (same_Some xs bytes is))
decoded word bytes true (Err e) is = absurd (none-some bytes is)
decoded word bytes false r is = absurd (none-some bytes is)

pub some_bytes : (word bytes : List ℕ) → bytes_in word ≡ Some bytes → ¬ IsNoHex word
some_bytes word bytes is h =
    let both = decoded word bytes (list_all is_small_digit word) (decode_of word) is in
    let good = decode_of-ok word bytes both.1 in
    elim h [
      | inl odd ↦ absurd (omega (arith, odd, good.0))
      | inr other ↦ absurd (other (AllPass-from_list_all is_small_digit word both.0))
    ]

-- an even number of digits spells bytes
spelled : (word : List ℕ) → length word % 2 ≡ 0 → AllPass is_small_digit word → (bytes : List ℕ) × (bytes_in word ≡ Some bytes)
spelled word even small =
    let r = decode_of-digits word even (λ k d lt. is_digit (slice_index_or word k d) (small k d lt)) in
    (r.0, ap (λ b. cond b (result_ok (decode_of word)) None) (list_all-from_AllPass is_small_digit word small) ∙ ap result_ok r.1)

pub no_bytes : (word : List ℕ) → bytes_in word ≡ None → IsNoHex word
no_bytes word none = elim (cases_eq (length word % 2) 1) [
  | inl odd ↦ inl odd
  | inr even ↦ inr (λ small.
      let r = spelled word (omega (arith, even)) small in
      none-some r.0 (sym none ∙ r.1))
]

-- ---- the bytes of a word

-- every digit in the table is in lower case
small_at : (d : ℕ) → d < 16 → is_small_digit (slice_index lower_digits d) ≡ true
small_at d lt = agree_below_at (λ d. is_small_digit (slice_index lower_digits d)) (λ d. true) 16 d refl lt

small_digits : (bytes : List ℕ) → IsBytes bytes → list_all is_small_digit (encode_with lower_digits bytes) ≡ true
unfolding encode_with
small_digits [] all = refl
small_digits (b ∷ rest) all =
    let within : b < 256 = all 0 in
    let high : b / 16 < 16 = omega (arith, within) in
    let low : b % 16 < 16 = omega (arith, within) in
    and_from (is_small_digit (slice_index lower_digits (b / 16))) _ (small_at (b / 16) high)
    (and_from (is_small_digit (slice_index lower_digits (b % 16))) _ (small_at (b % 16) low) (small_digits rest (λ k. all (suc k))))

-- the text of bytes spells them
pub bytes_read : (bytes word : List ℕ) → word ≡ encode_lower bytes → IsBytes bytes → bytes_in word ≡ Some bytes
bytes_read bytes word same all =
    let text = encode_lower bytes in
    ap bytes_in same ∙ cond-true (list_all is_small_digit text) (result_ok (decode_of text)) None (small_digits bytes all)
    ∙ ap result_ok (decode_of-encode_lower bytes all)

-- the position of a digit in the table
abbrev place_of : ℕ → ℕ
place_of digit = cond (leb digit 57) (digit - 48) (digit - 87)

abbrev has_place : ℕ → Bool
has_place digit = not (is_small_digit digit) || (ltb (place_of digit) 16 && (slice_index lower_digits (place_of digit) == digit))

below : (digit : ℕ) → is_small_digit digit ≡ true → digit < 103
below digit small = grind (arith, nat_tests)

placed : (digit : ℕ) → is_small_digit digit ≡ true → (place_of digit < 16) × (slice_index lower_digits (place_of digit) ≡ digit)
placed digit small =
    let both = ltb (place_of digit) 16 && (slice_index lower_digits (place_of digit) == digit) in
    elim (or_cases (not (is_small_digit digit)) both (agree_below_at has_place (λ d. true) 103 digit refl (below digit small))) [
      | inl other ↦ absurd (both_ways (is_small_digit digit) (not-true (is_small_digit digit) other) small)
      | inr found ↦
          let parts = and_parts (ltb (place_of digit) 16) (slice_index lower_digits (place_of digit) == digit) found in
          (ltb-true (place_of digit) 16 parts.0, eqb-true (slice_index lower_digits (place_of digit)) digit parts.1)
    ]

cons_bytes : (b : ℕ) (rest : List ℕ) → b < 256 → IsBytes rest → IsBytes (b ∷ rest)
cons_bytes b rest first more zero = first
cons_bytes b rest first more (suc k) = more k

-- an even number of lower-case digits is the text of some bytes
text_of_bytes : (word : List ℕ) → length word % 2 ≡ 0 → list_all is_small_digit word ≡ true → (bytes : List ℕ) × (encode_with lower_digits bytes ≡ word) × IsBytes bytes
unfolding encode_with
text_of_bytes [] even small = ([], refl, λ k. omega arith)
text_of_bytes (a ∷ []) even small = absurd (omega (arith, even))
text_of_bytes (a ∷ b ∷ rest) even small =
    let first = and_parts (is_small_digit a) (is_small_digit b && list_all is_small_digit rest) small in
    let second = and_parts (is_small_digit b) (list_all is_small_digit rest) first.1 in
    let high = placed a first.0 in
    let low = placed b second.0 in
    let more = text_of_bytes rest (omega (arith, even)) second.1 in
    let byte : ℕ = place_of a * 16 + place_of b in
    let front : byte / 16 ≡ place_of a = omega (arith, high.0, low.0) in
    let end : byte % 16 ≡ place_of b = omega (arith, high.0, low.0) in (
      byte ∷ more.0,
      ap (λ (c : ℕ). c ∷ slice_index lower_digits (byte % 16) ∷ encode_with lower_digits more.0) (ap (slice_index lower_digits) front ∙ high.1)
          ∙ ap (λ (c : ℕ). a ∷ c ∷ encode_with lower_digits more.0) (ap (slice_index lower_digits) end ∙ low.1) ∙ ap (λ (l : List ℕ). a ∷ b ∷ l) more.1,
      cons_bytes byte more.0 (omega (arith, high.0, low.0)) more.2,
    )

-- a word that spells bytes is their text
pub bytes_spelled : (bytes word : List ℕ) → bytes_in word ≡ Some bytes → (word ≡ encode_lower bytes) × IsBytes bytes
bytes_spelled bytes word is =
    let both = decoded word bytes (list_all is_small_digit word) (decode_of word) is in
    let good = decode_of-ok word bytes both.1 in
    let text = text_of_bytes word good.0 both.0 in
    let same : text.0 ≡ bytes =
    ap (λ (r : Result (List ℕ) FromHexError). result_unwrap_or r []) (sym (decode_of-encode_lower text.0 text.2) ∙ ap decode_of text.1 ∙ both.1) in
    (sym text.1 ∙ ap encode_lower same, good.3)

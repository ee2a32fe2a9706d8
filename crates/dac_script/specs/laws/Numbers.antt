-- A word is read as a number exactly if it is that number's decimal text and the number isn't too large.
use Rattle.std.proofs.Common.{◌≡◌, ℕ, ◌+◌, ◌-◌, ◌*◌, ◌^◌, ◌<◌, ◌≤◌, true, not, ◌&&◌, List, [], ◌∷◌, length, get_or, nat_le, Some, None, decimal, leb, ◌==◌, refl, sym, ap, subst, ◌∙◌, arith, inl, inr}
use Rattle.dac_script.specs.laws.Common.{list_all, is_ascii_digit, false≢true, and_from, and_parts, cond-true, ne_eqb, not-true, not_from_false, decimal_digit, cond_some, value_from, MAX_NUMBER, number_in}
use Rattle.std.proofs.lemmas.Bool.{cases_lt, eqb-false, le-leb, leb-true}
use Rattle.std.proofs.lemmas.Fmt.{decimal_nonempty, first_decimal, digits_decimal, digits_value-decimal, decimal-digits_value}
use Rattle.std.proofs.lemmas.Str.Parse.{IsDigitsTest, FoldsDigits, IsNumeralModel, numerals_by_fold}
use Rattle.dac_script.specs.Words.{is_digits}

-- ---- digits

abbrev AreDigits : List ℕ → Type 0
AreDigits digits = list_all is_ascii_digit digits ≡ true

tells_digits : IsDigitsTest AreDigits
tells_digits = record {
  empty = refl;
  parts = λ c cs e.
      let k = and_parts (is_ascii_digit c) (list_all is_ascii_digit cs) e in
      let m = and_parts (leb 48 c) (leb c 57) k.0 in ((leb-true 48 c m.0, leb-true c 57 m.1), k.1);
  more = λ c cs k e. and_from (is_ascii_digit c) (list_all is_ascii_digit cs) (and_from (leb 48 c) (leb c 57) (le-leb 48 c k.0) (le-leb c 57 k.1)) e;
}

folds : FoldsDigits value_from
folds = record {
  empty = λ n. refl;
  more = λ n c cs k.
      let same : 10 * n + (c - 48) ≡ n * 10 + (c - 48) = omega arith in
      ap (λ (m : ℕ). value_from m cs) same;
}

own : IsNumeralModel AreDigits (value_from 0)
own = numerals_by_fold AreDigits tells_digits value_from folds

-- at least one digit, and no leading zero
digits_parts : (digits : List ℕ) → is_digits digits ≡ true → AreDigits digits × (0 < length digits) × (get_or digits 0 0 ≡ 48 → length digits ≡ 1)
digits_parts [] e = absurd (false≢true e)
digits_parts (d ∷ []) e = (and_from (is_ascii_digit d) true e refl, omega arith, λ lead. refl)
digits_parts (d ∷ c ∷ cs) e =
    let k = and_parts (not (d == 48)) (list_all is_ascii_digit (d ∷ c ∷ cs)) e in
    (k.1, omega arith, λ lead. absurd (eqb-false d 48 (not-true (d == 48) k.0) lead))

digits_form : (digits : List ℕ) → AreDigits digits → 0 < length digits → (get_or digits 0 0 ≡ 48 → length digits ≡ 1) → is_digits digits ≡ true
digits_form [] all some lead = absurd (omega (arith, some))
digits_form (d ∷ []) all some lead = (and_parts (is_ascii_digit d) true all).0
digits_form (d ∷ c ∷ cs) all some lead =
    and_from (not (d == 48)) (list_all is_ascii_digit (d ∷ c ∷ cs)) (not_from_false (d == 48) (ne_eqb d 48 (λ first. absurd (omega (arith, lead first))))) all

-- ---- numbers

fits : (number : ℕ) → number ≤ MAX_NUMBER → number < 2 ^ 64
fits number le =
    let most : MAX_NUMBER ≡ 2 ^ 62 = refl in
    omega (arith, le, most)

-- only the text of 0 begins with a zero
leads : (number : ℕ) → number < 2 ^ 64 → get_or (decimal number) 0 0 ≡ 48 → length (decimal number) ≡ 1
leads number small first =
    elim (cases_lt 0 number) [
      | inl some ↦ absurd (omega (arith, first, first_decimal number some small))
      | inr none ↦ ap length (decimal_digit number (omega (arith, none)))
    ]

-- a number's text is read as the number
pub number_read : (number : ℕ) (word : List ℕ) → word ≡ decimal number → number ≤ MAX_NUMBER → number_in word ≡ Some number
number_read number word same le =
    let small = fits number le in
    let text = decimal number in
    let value : value_from 0 text ≡ number = digits_value-decimal own number small in
    let form : is_digits text ≡ true = digits_form text (digits_decimal own number small) (decimal_nonempty number small) (leads number small) in
    let most : nat_le (value_from 0 text) MAX_NUMBER ≡ true = le-leb (value_from 0 text) MAX_NUMBER (subst (λ (m : ℕ). m ≤ MAX_NUMBER) (sym value) le) in
    ap number_in same
    ∙ cond-true (is_digits text && nat_le (value_from 0 text) MAX_NUMBER) (Some (value_from 0 text)) None (and_from (is_digits text) (nat_le (value_from 0 text) MAX_NUMBER) form most)
    ∙ ap (λ (m : ℕ). Some m) value

-- a word read as a number is its text
pub number_spelled : (number : ℕ) (word : List ℕ) → number_in word ≡ Some number → (word ≡ decimal number) × (number ≤ MAX_NUMBER)
number_spelled number word e =
    let value = value_from 0 word in
    let p = cond_some (is_digits word && nat_le value MAX_NUMBER) value number e in
    let passes = and_parts (is_digits word) (nat_le value MAX_NUMBER) p.0 in
    let form = digits_parts word passes.0 in
    let most : value ≤ MAX_NUMBER = leb-true value MAX_NUMBER passes.1 in (
      sym (decimal-digits_value own word form.0 form.1 form.2 (fits value most)) ∙ ap decimal p.1,
      subst (λ (m : ℕ). m ≤ MAX_NUMBER) p.1 most,
    )

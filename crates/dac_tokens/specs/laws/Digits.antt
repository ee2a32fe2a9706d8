-- The value of digits, for a loop that stops once a number is too large.
use Rattle.std.proofs.Common.{◌≡◌, ℕ, ◌+◌, ◌-◌, ◌*◌, ◌<◌, ◌≤◌, cond, ltb, None, Some, List, [], ◌∷◌, length, get_or, drop, refl, sym, ap, ◌∙◌, arith, add-one, drop-cons}
use Rattle.std.proofs.lemmas.Bool.{le-ltb, lt-ltb}
use Rattle.std.proofs.lemmas.List.{drop_all}
use Rattle.dac_tokens.specs.Digits.{value_from}

-- a value never decreases with more digits
value_from-le : (n : ℕ) (digits : List ℕ) → n ≤ value_from n digits
value_from-le n [] = omega arith
value_from-le n (digit ∷ digits) = omega (arith, value_from-le (10 * n + (digit - 48)) digits)

value_more : (n i : ℕ) (digits : List ℕ) → i < length digits → value_from n (drop i digits) ≡ value_from (10 * n + (get_or digits i 0 - 48)) (drop (i + 1) digits)
value_more n i digits lt = rw (add-one, drop-cons digits i 0) refl

-- the value of the digits read so far is at most the number
pub not_less : (n i v : ℕ) (digits : List ℕ) → i < length digits → value_from n (drop i digits) ≡ v → 10 * n + (get_or digits i 0 - 48) ≤ v
not_less n i v digits lt e = omega (arith, sym e ∙ value_more n i digits lt, value_from-le (10 * n + (get_or digits i 0 - 48)) (drop (i + 1) digits))

-- the value of all digits is the number
pub is_done : (n i v : ℕ) (digits : List ℕ) → length digits ≤ i → value_from n (drop i digits) ≡ v → n ≡ v
is_done n i v digits le e = ap (value_from n) (sym (drop_all i digits le)) ∙ e

-- the result for a number that is too large; `small_enough` has it for any other
pub too_large : (v limit : ℕ) → limit ≤ v → None ≡ cond (ltb v limit) (Some v) None
too_large v limit le = rw (le-ltb v limit le) refl

pub small_enough : (n v limit : ℕ) → n ≡ v → n < limit → Some n ≡ cond (ltb v limit) (Some v) None
small_enough n v limit e lt = rw (← e, lt-ltb n limit lt) refl

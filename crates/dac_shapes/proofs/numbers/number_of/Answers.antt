use Rattle.std.proofs.Common.{◌≡◌, ℕ, ◌+◌, ◌-◌, ◌*◌, ◌<◌, List, length, get_or, drop, arith, ◌∙◌, add-one, drop-cons}
use Rattle.dac_tokens.specs.Digits.{value_from}
use Rattle.dac_tokens.specs.laws.Digits.{not_less, is_done, too_large, small_enough}
use Rattle.dac_shapes.proofs.numbers.number_of.Goals as goal

-- the value of the digits read so far, with one more digit
next_digit : (n m i v : ℕ) (digits : List ℕ) → i < length digits → value_from n (drop i digits) ≡ v → m ≡ 10 * n + (get_or digits i 0 - 48) → value_from m (drop (i + 1) digits) ≡ v
next_digit n m i v digits lt e is = rw (is, add-one) (rw (drop-cons digits i 0) at e)

pub returns-in_err-checked_mul : goal.returns-in_err-checked_mul
returns-in_err-checked_mul c =
    c.from_residual.ensures ∙ too_large (value_from 0 c.args.digits.now) 4294967296 (omega (arith, not_less c.loop-digit.value c.loop-digit.digit-index (value_from 0 c.args.digits.now) c.args.digits.now c.loop-digit-test.true c.loop-digit.invariant.so_far, c.in_err-checked_mul.ensures))

pub returns-in_err-value : goal.returns-in_err-value
returns-in_err-value c =
    c.from_residual-in_err-value.ensures ∙ too_large (value_from 0 c.args.digits.now) 4294967296 (omega (arith, not_less c.loop-digit.value c.loop-digit.digit-index (value_from 0 c.args.digits.now) c.args.digits.now c.loop-digit-test.true c.loop-digit.invariant.so_far, c.in_err-value.ensures, c.in_ok-checked_mul.ensures.1, c.from.ensures, c.saturating_sub.ensures))

pub returns : goal.returns
returns c = small_enough c.loop-digit.value (value_from 0 c.args.digits.now) 4294967296 (is_done c.loop-digit.value c.loop-digit.digit-index _ c.args.digits.now c.loop-digit-test.false c.loop-digit.invariant.so_far) c.loop-digit.invariant.fits

pub loop-digit-preserved : goal.loop-digit-preserved
loop-digit-preserved c = record { so_far = next_digit c.loop-digit.value _ _ _ _ c.loop-digit-test.true c.loop-digit.invariant.so_far (omega (arith, c.in_ok-checked_mul.ensures.1, c.in_ok-value.ensures.1, c.from.ensures, c.saturating_sub.ensures)); fits = omega (arith, c.in_ok-value.ensures) }

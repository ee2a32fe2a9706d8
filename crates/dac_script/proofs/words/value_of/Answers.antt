use Rattle.std.proofs.Common.{◌^◌, arith, ◌∙◌}
use Rattle.dac_script.specs.laws.Common.{value_from}
use Rattle.dac_tokens.specs.laws.Digits.{not_less, is_done, too_large, small_enough}
use Rattle.dac_script.proofs.words.value_of.Goals as goal

pub returns-in_err-checked_mul : goal.returns-in_err-checked_mul
returns-in_err-checked_mul c =
    let least = not_less c.loop-digit.value c.loop-digit.digit-index (value_from 0 c.args.digits.now) c.args.digits.now c.loop-digit-test.true c.loop-digit.invariant.so_far in
    c.from_residual.ensures ∙ too_large (value_from 0 c.args.digits.now) (2 ^ 64) (omega (arith, c.in_err-checked_mul.ensures))

pub returns-in_err-value : goal.returns-in_err-value
returns-in_err-value c =
    let least = not_less c.loop-digit.value c.loop-digit.digit-index (value_from 0 c.args.digits.now) c.args.digits.now c.loop-digit-test.true c.loop-digit.invariant.so_far in
    c.from_residual-in_err-value.ensures ∙ too_large (value_from 0 c.args.digits.now) (2 ^ 64) (omega (arith, c.in_err-value.ensures, c.in_ok-checked_mul.ensures.1, c.from.ensures, c.saturating_sub.ensures))

pub returns : goal.returns
returns c = small_enough c.loop-digit.value (value_from 0 c.args.digits.now) (2 ^ 64) (is_done c.loop-digit.value c.loop-digit.digit-index _ c.args.digits.now c.loop-digit-test.false c.loop-digit.invariant.so_far) c.loop-digit.invariant.fits

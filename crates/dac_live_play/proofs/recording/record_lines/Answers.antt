use Rattle.std.proofs.Common.{◌<◌, length, ap, arith}
use Rattle.dac_live_play.proofs.Common.{MAX_TEXT}
use Rattle.dac_live_play.proofs.Phased.{too_long, none_fits}
use Rattle.dac_live_play.proofs.recording.record_lines.Goals as goal

pub returns-then-len-gt-MAX_TEXT-clause-fault : goal.returns-then-len-gt-MAX_TEXT-clause-fault
returns-then-len-gt-MAX_TEXT-clause-fault c =
    none_fits c.args.config.now c.args.printed.now c.args.run.now c.in_ok-text.text.items c.in_ok-text.phases c.in_ok-text.ensures
    (omega (arith, c.if-len-gt-MAX_TEXT.true, c.len.ensures, ap length c.in_ok-canonical.ensures.bytes))

pub returns-then-len-gt-MAX_INPUT-clause-fault : goal.returns-then-len-gt-MAX_INPUT-clause-fault
returns-then-len-gt-MAX_INPUT-clause-fault c =
    let many : 2097152 < length c.in_ok-text.text.items = omega (arith, c.if-len-gt-MAX_INPUT.true, c.len-2.ensures) in
    too_long c.args.config.now c.args.printed.now c.args.run.now c.in_ok-text.text.items c.in_ok-text.phases c.in_ok-text.ensures
    (omega (arith, c.if-len-gt-MAX_TEXT.false, c.len.ensures, ap length c.in_ok-canonical.ensures.bytes)) (λ taken. omega (arith, many, taken))

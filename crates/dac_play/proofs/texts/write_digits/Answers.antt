use Rattle.std.proofs.Common.{ℕ, ◌+◌, ◌*◌, ◌++◌, length, take, drop, slice_index, slice_set, refl, ap, ◌∙◌, arith}
use Rattle.dac_play.proofs.Common.{encode_lower, lower_digits}
use Rattle.std.proofs.lemmas.List.{length-set, drop-set-lt, set_comm}
use Rattle.hex.proofs.Pairs.{encode_step}
use Rattle.dac_play.specs.declared.texts.TheConstants.{DIGITS}
use Rattle.dac_play.proofs.Digits.{all_written, pair_at}
use Rattle.dac_play.proofs.texts.write_digits.Goals as goal

pub loop-at-init : goal.loop-at-init
loop-at-init c = record { written = refl; rest = refl; long = refl }

pub loop-at-preserved : goal.loop-at-preserved
loop-at-preserved c =
    let bytes = c.args.bytes.now in
    let at = c.loop-at.at in
    let line = c.loop-at.line in
    let long = c.loop-at.invariant.long in
    let room = c.requires in
    let byte : ℕ = slice_index bytes at in
    let pair = pair_at DIGITS.now 256 byte refl (omega arith) in
    let high = slice_index DIGITS.now (2 * byte) in
    let low = slice_index DIGITS.now (2 * byte + 1) in
    let first = slice_set line (2 * at + 1) low in
    record {
      written =
          ap (λ line. take (2 * (at + 1)) line ++ encode_lower (drop (at + 1) bytes)) (set_comm line (2 * at + 1) (2 * at) low high (λ e. omega (arith, e)))
          ∙ encode_step lower_digits bytes line at high low (omega arith) (omega (arith, long, room)) pair.high pair.low c.loop-at.invariant.written;
      rest = drop-set-lt (2 * length bytes) first (2 * at) high (omega arith) ∙ drop-set-lt (2 * length bytes) line (2 * at + 1) low (omega arith) ∙ c.loop-at.invariant.rest;
      long = length-set first (2 * at) high ∙ length-set line (2 * at + 1) low ∙ long;
    }

pub returns : goal.returns
returns c =
    let up_to = c.loop-at.auto.at-end in
    let over = c.loop-at-test.false in
    all_written c.args.bytes.now c.loop-at.line c.args.line.now c.loop-at.at (omega (arith, over)) (omega (arith, up_to)) c.loop-at.invariant.written c.loop-at.invariant.rest

use Rattle.std.proofs.Common.{◌*◌, ◌++◌, length, drop, ap, ◌∙◌}
use Rattle.dac_play.proofs.Common.{encode_lower}
use Rattle.dac_play.proofs.Digits.{line_is}
use Rattle.dac_play.proofs.texts.hex_line.Goals as goal

pub returns : goal.returns
returns c =
    let bytes = c.args.bytes.now in
    line_is bytes c.in_ok-line.line.items c.write_digits.new.line c.in_ok-line.line.len c.in_ok-line.ensures.len (c.in_ok-line.ensures.items_if_clones_equal (λ y same. same))
    (c.write_digits.ensures ∙ ap (λ items. encode_lower bytes ++ drop (2 * length bytes) items) c.as_mut_slice.ensures.value)

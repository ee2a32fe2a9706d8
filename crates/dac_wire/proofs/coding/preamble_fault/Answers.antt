use Rattle.std.proofs.Common.{Some, sym, ap, ◌∙◌}
use Rattle.dac_wire.specs.laws.Fronts.{too_long, bad_magic, bad_version, no_mark, other_config, no_fault}
use Rattle.dac_wire.proofs.coding.preamble_fault.Goals as goal

pub returns-then-bytes-gt-MAX_MESSAGE : goal.returns-then-bytes-gt-MAX_MESSAGE
returns-then-bytes-gt-MAX_MESSAGE c = ap Some c.new.ensures ∙ sym (too_long c.args.version c.args.config.now c.args.bytes.now c.if-bytes-gt-MAX_MESSAGE.true)

pub returns-then-not-starts_with : goal.returns-then-not-starts_with
returns-then-not-starts_with c =
    ap Some c.new-then-not-starts_with.ensures
    ∙ sym (bad_magic c.args.version c.args.config.now c.args.bytes.now c.if-bytes-gt-MAX_MESSAGE.false (sym c.starts_with.ensures.value ∙ c.if-not-starts_with.true))

pub returns-then-not-starts_with-2 : goal.returns-then-not-starts_with-2
returns-then-not-starts_with-2 c =
    ap Some c.new-then-not-starts_with-2.ensures
    ∙ sym (bad_version c.args.version c.args.config.now c.args.bytes.now c.if-bytes-gt-MAX_MESSAGE.false (sym c.starts_with.ensures.value ∙ c.if-not-starts_with.false) (rw c.name.ensures at (sym c.starts_with-2.ensures.value ∙ c.if-not-starts_with-2.true)))

pub returns-then-bytes-lt-PREAMBLE : goal.returns-then-bytes-lt-PREAMBLE
returns-then-bytes-lt-PREAMBLE c =
    ap Some c.new-then-bytes-lt-PREAMBLE.ensures
    ∙ sym (no_mark c.args.version c.args.config.now c.args.bytes.now c.if-bytes-gt-MAX_MESSAGE.false (sym c.starts_with.ensures.value ∙ c.if-not-starts_with.false) (rw c.name.ensures at (sym c.starts_with-2.ensures.value ∙ c.if-not-starts_with-2.false)) c.if-bytes-lt-PREAMBLE.true)

pub returns-then-not-starts_with-3 : goal.returns-then-not-starts_with-3
returns-then-not-starts_with-3 c =
    ap Some c.new-then-not-starts_with-3.ensures
    ∙ sym (other_config c.args.version c.args.config.now c.args.bytes.now c.if-bytes-gt-MAX_MESSAGE.false (sym c.starts_with.ensures.value ∙ c.if-not-starts_with.false) (rw c.name.ensures at (sym c.starts_with-2.ensures.value ∙ c.if-not-starts_with-2.false)) c.if-bytes-lt-PREAMBLE.false
    (rw c.preamble.ensures at (sym c.starts_with-3.ensures.value ∙ c.if-not-starts_with-3.true)))

pub returns : goal.returns
returns c =
    sym (no_fault c.args.version c.args.config.now c.args.bytes.now c.if-bytes-gt-MAX_MESSAGE.false (sym c.starts_with.ensures.value ∙ c.if-not-starts_with.false) (rw c.name.ensures at (sym c.starts_with-2.ensures.value ∙ c.if-not-starts_with-2.false)) c.if-bytes-lt-PREAMBLE.false
    (rw c.preamble.ensures at (sym c.starts_with-3.ensures.value ∙ c.if-not-starts_with-3.false)))

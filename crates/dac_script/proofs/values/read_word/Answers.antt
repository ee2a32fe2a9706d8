use Rattle.std.proofs.Common.{rules, sym, ◌∙◌}
use denote.Enum.Bare.{differs_false}
use Rattle.dac_script.specs.contracts.verb.Role.{the_type}
use Rattle.dac_script.specs.declared.verb.Role.TheVariants.{Hex}
use Rattle.dac_script.specs.laws.Digits.{bytes_spelled}
use Rattle.dac_script.proofs.Told.{bad_bytes}
use Rattle.dac_script.proofs.values.read_word.Goals as goal

pub returns-in-Some-clause-read : goal.returns-in-Some-clause-read
returns-in-Some-clause-read c =
    let hex = differs_false the_type (search rules) c.args.role Hex (sym c.if-ne.ensures) in
    rw hex (bytes_spelled c.in-Some.bytes c.args.word.now (sym c.in_ok-bytes.ensures ∙ c.in-Some.is))

pub returns-in-None-clause-read : goal.returns-in-None-clause-read
returns-in-None-clause-read c =
    let hex = differs_false the_type (search rules) c.args.role Hex (sym c.if-ne.ensures) in
    rw hex (bad_bytes c.args.config.now c.args.word.now (sym c.in_ok-bytes.ensures ∙ c.in-None.is))

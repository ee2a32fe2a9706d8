use Rattle.std.proofs.Common.{sym, ◌∙◌}
use Rattle.dac_script.specs.laws.Numbers.{number_spelled}
use Rattle.dac_script.proofs.values.read_plain.Goals as goal

pub returns-in_ok-values-in-Number-clause-read : goal.returns-in_ok-values-in-Number-clause-read
returns-in_ok-values-in-Number-clause-read c =
    rw c.in-Number.is
    (number_spelled c.in_ok-values-in-Number.field-0 c.args.word.now (sym c.number_in.ensures ∙ c.in_ok-values-in-Number.ensures.ok_part))

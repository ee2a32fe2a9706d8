use Rattle.std.proofs.Common.{◌∙◌}
use Rattle.std.proofs.Math.Facts.{Fits-lt-pow}
use Rattle.dac_dots.proofs.RowLemmas.{rises_at_end}
use Rattle.dac_dots.proofs.rows.ascends_from.Goals as goal

pub returns-in_default : goal.returns-in_default
returns-in_default c = c.is_empty.ensures ∙ rises_at_end c.args.upto c.args.numbers.now c.in_default.ensures (λ i. Fits-lt-pow (c.type_inv.numbers i))

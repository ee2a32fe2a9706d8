use Rattle.std.proofs.Common.{◌∙◌, ap, length}
use Rattle.dac_sorted.proofs.counted.Counted.len.Goals as goal

pub returns-clause-value : goal.returns-clause-value
returns-clause-value g c = c.self.invariant.counted ∙ ap length c.self.view_is

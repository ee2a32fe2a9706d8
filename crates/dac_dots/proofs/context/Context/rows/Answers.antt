use Rattle.std.proofs.Common.{◌∙◌, sym}
use Rattle.dac_dots.specs.laws.EntryRows.{rows_length}
use Rattle.dac_dots.proofs.context.Context.rows.Goals as goal

pub returns : goal.returns
returns c = c.len.ensures.value ∙ sym (rows_length c.self.inside.rows c.args.self.now c.self.view_is c.self.invariant)

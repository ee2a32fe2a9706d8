use Rattle.std.proofs.Common.{◌∙◌, sym}
use Rattle.dac_status.proofs.Passing.{by_permits}
use Rattle.dac_status.proofs.walk.permitted_by.Goals as goal

pub returns-else-is_empty : goal.returns-else-is_empty
returns-else-is_empty c = c.all_say_true.ensures ∙ sym (by_permits c.args.default c.args.permits.now (sym c.is_empty.ensures ∙ c.if-is_empty.false))

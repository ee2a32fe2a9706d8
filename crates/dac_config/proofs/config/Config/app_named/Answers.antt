use Rattle.std.proofs.Common.{sym, Some, None}
use Rattle.dac_config.proofs.Tables.{app_found}
use Rattle.dac_config.proofs.config.Config.app_named.Goals as goal

pub returns-in_err-at : goal.returns-in_err-at
returns-in_err-at c = rw c.from_residual.ensures (sym (app_found c.tables.result.now c.args.self.now c.tables.ensures.view c.args.name.now None c.in_err-at.ensures.index))

pub returns : goal.returns
returns c = sym (app_found c.tables.result.now c.args.self.now c.tables.ensures.view c.args.name.now (Some c.in_ok-at.at) c.in_ok-at.ensures.index)

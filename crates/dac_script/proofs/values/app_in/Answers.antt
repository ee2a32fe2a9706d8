use Rattle.std.proofs.Common.{sym}
use Rattle.dac_script.proofs.Told.{app_told}
use Rattle.dac_script.proofs.values.app_in.Goals as goal

pub returns-in-Some : goal.returns-in-Some
returns-in-Some c =
    rw (c.unwrap_or.ensures, c.app_named.ensures, c.apps.ensures.count)
    (app_told c.args.config.now c.args.word.now c.in-Some.name.now (sym c.in-Some.ensures))

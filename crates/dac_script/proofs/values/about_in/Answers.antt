use Rattle.std.proofs.Common.{sym}
use Rattle.dac_script.proofs.Told.{about_told}
use Rattle.dac_script.proofs.values.about_in.Goals as goal

pub returns-in-Some : goal.returns-in-Some
returns-in-Some c =
    rw (c.unwrap_or.ensures, c.node_named.ensures, c.nodes.ensures.count)
    (about_told c.args.config.now c.args.word.now c.in-Some.name.now (sym c.in-Some.ensures))

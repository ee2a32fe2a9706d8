use Rattle.std.proofs.Common.{sym}
use Rattle.dac_script.specs.laws.Atoms.{name_spelled}
use Rattle.dac_script.proofs.values.node_in.Goals as goal

pub returns-in-Some-node_named : goal.returns-in-Some-node_named
returns-in-Some-node_named c =
    (c.in-Some.name.now, name_spelled c.in-Some.name.now c.args.word.now (sym c.in-Some.ensures), sym c.in-Some-node_named.ensures)

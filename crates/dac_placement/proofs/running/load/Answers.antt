use Rattle.std.proofs.Common.{sym, subst}
use Rattle.dac_placement.specs.Placement.{IsLoad}
use Rattle.dac_placement.specs.laws.Loads.{load_is}
use Rattle.dac_placement.proofs.running.load.Goals as goal

pub returns-clause-words : goal.returns-clause-words
returns-clause-words c = subst (IsLoad c.args.config.now c.args.state.now c.args.app c.args.node) (sym c.load_by.ensures) (load_is c.args.config.now c.args.state.now c.args.app c.args.node)

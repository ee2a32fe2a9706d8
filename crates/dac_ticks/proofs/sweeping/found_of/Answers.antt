use Rattle.std.proofs.Common.{sym, ◌∙◌}
use Rattle.dac_ticks.specs.laws.Words.{left_unless}
use Rattle.dac_ticks.proofs.sweeping.found_of.Goals as goal

pub returns-then-not-eligible : goal.returns-then-not-eligible
returns-then-not-eligible c = sym (left_unless c.args.config.now c.args.own c.args.waits.now c.args.now c.args.state.now c.args.app (sym c.eligible.ensures.value ∙ c.if-not-eligible.true))

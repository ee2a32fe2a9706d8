use Rattle.std.proofs.Common.{◌∙◌}
use Rattle.dac_sorted.specs.laws.Appending.{above_last_entry}
use Rattle.dac_sorted.proofs.appending.ends_below.Goals as goal

pub returns : goal.returns
returns g c = c.last_is_below.ensures ∙ above_last_entry g.met.K.Ord.total c.args.entries.now c.args.key c.requires

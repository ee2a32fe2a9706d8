use Rattle.dac_dots.proofs.SetLemmas.{united_is}
use Rattle.dac_dots.proofs.rows.UniteCombineOriginCounters.both.Goals as goal

pub returns : goal.returns
returns c = united_is c.args.mine.now c.args.theirs.now c.in_ok-union.field-0 c.in_ok-union.ensures.rising c.in_ok-union.ensures.has

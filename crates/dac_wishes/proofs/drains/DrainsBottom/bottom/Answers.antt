use Rattle.std.proofs.Common.{ap, ◌∙◌}
use Rattle.dac_origins.specs.Dots.{origin_cmp}
use Rattle.dac_wishes.specs.StoredDrains.{drains_of}
use Rattle.dac_wishes.proofs.VoteStoring.{votes_value_of-none}
use Rattle.dac_wishes.proofs.drains.DrainsBottom.bottom.Goals as goal

pub returns : goal.returns
returns c = ap drains_of c.bottom.ensures ∙ votes_value_of-none origin_cmp

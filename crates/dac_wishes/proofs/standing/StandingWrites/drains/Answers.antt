use Rattle.std.proofs.Common.{◌∙◌, ap}
use Rattle.dac_wishes.specs.StandingValue.{drains_in}
use Rattle.dac_wishes.specs.StoredDrains.{drains_of}
use Rattle.dac_wishes.proofs.standing.StandingWrites.drains.Goals as goal

pub of-requires : goal.of-requires
of-requires c = c.self.invariant.drains.held

pub returns : goal.returns
returns c = c.of-2.ensures ∙ ap drains_of c.of.ensures ∙ ap drains_in c.self.view_is

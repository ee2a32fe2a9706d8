use Rattle.std.proofs.Common.{◌∙◌, ap}
use Rattle.dac_wishes.specs.StoredDrains.{drains_of}
use Rattle.dac_wishes.proofs.drains.Drains.borrowed.Goals as goal

pub returns : goal.returns
returns c = c.of.ensures ∙ ap drains_of c.borrowed.ensures ∙ c.self.view_is

use Rattle.std.proofs.Common.{◌∙◌, ap}
use Rattle.dac_wishes.specs.StoredPermits.{permissions_of}
use Rattle.dac_wishes.proofs.permissions.Permissions.borrowed.Goals as goal

pub returns : goal.returns
returns c = c.of.ensures ∙ ap permissions_of c.borrowed.ensures ∙ c.self.view_is

use Rattle.std.proofs.Common.{◌∙◌, ap}
use Rattle.dac_wishes.specs.StandingValue.{permissions_in}
use Rattle.dac_wishes.specs.StoredPermits.{permissions_of}
use Rattle.dac_wishes.proofs.standing.StandingWrites.permissions.Goals as goal

pub of-requires : goal.of-requires
of-requires c = c.self.invariant.permits.held

pub returns : goal.returns
returns c = c.of-2.ensures ∙ ap permissions_of c.of.ensures ∙ ap permissions_in c.self.view_is

use Rattle.std.proofs.Common.{ap, ◌∙◌}
use Rattle.dac_wishes.specs.Keys.{key_cmp}
use Rattle.dac_wishes.specs.StoredPermits.{permissions_of}
use Rattle.dac_wishes.proofs.VoteStoring.{votes_value_of-none}
use Rattle.dac_wishes.proofs.permissions.PermissionsBottom.bottom.Goals as goal

pub returns : goal.returns
returns c = ap permissions_of c.bottom.ensures ∙ votes_value_of-none key_cmp

-- Laws of the definitions in `PermitMeaning`.
use Rattle.dac_lattice.specs.Pieces.{IsPiece}
use Rattle.dac_wishes.specs.laws.Keys.{keys_total, exact_keys}
use Rattle.dac_wishes.specs.PermissionsValue.{ArePermissions, join_permissions, no_permissions}
use Rattle.dac_wishes.specs.Replacing.{ExcludesOwnDot}
use Rattle.dac_wishes.specs.laws.VoteMeaning as votes_laws
use Rattle.dac_wishes.specs.PermitMeaning.{IsMeaning, over_of, permit_delta, vote_of}

-- the joined deltas of operations are their meaning
pub permit_piece : IsPiece ArePermissions join_permissions no_permissions (ExcludesOwnDot over_of) permit_delta IsMeaning
permit_piece = votes_laws.vote_piece keys_total exact_keys over_of vote_of

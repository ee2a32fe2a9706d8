-- Laws of the definitions in `DrainMeaning`.
use Rattle.dac_origins.specs.laws.Dots.{origins_total, exact_origins}
use Rattle.dac_lattice.specs.Pieces.{IsPiece}
use Rattle.dac_wishes.specs.DrainsValue.{AreDrains, join_drains, no_drains}
use Rattle.dac_wishes.specs.Replacing.{ExcludesOwnDot}
use Rattle.dac_wishes.specs.laws.VoteMeaning as votes_laws
use Rattle.dac_wishes.specs.DrainMeaning.{IsMeaning, drain_delta, over_of, vote_of}

-- the joined deltas of operations are their meaning
pub drain_piece : IsPiece AreDrains join_drains no_drains (ExcludesOwnDot over_of) drain_delta IsMeaning
drain_piece = votes_laws.vote_piece origins_total exact_origins over_of vote_of

-- The stored form of drains: for each origin a map from dots to flags, paired with the context of the known dots.
use Rattle.std.specs.Prelude.{List}
use Rattle.dac_origins.specs.declared.dot.Origin.{Origin}
use Rattle.dac_origins.specs.Dots.{origin_cmp}
use Rattle.dac_wishes.specs.DrainsValue.{DrainsValue, Drains}
use Rattle.dac_wishes.specs.StoredVotes.{DotFlags, StoredVotes, AreStoredVotes, votes_value_of}
use Rattle.dac_wishes.specs.VotesByKey.{votes_by_key}

-- the drains at each origin, and the known dots
abbrev pub StoredDrains : Type 0
StoredDrains = StoredVotes Origin

-- the origins are sorted, each has drains in the order of their dots, and each dot is known
abbrev pub AreStoredDrains : StoredDrains → Type 0
AreStoredDrains = AreStoredVotes origin_cmp

-- the drains that a stored form represents
abbrev pub drains_of : StoredDrains → DrainsValue
drains_of = votes_value_of origin_cmp

-- each origin that has a drain, with its drains
abbrev pub drains_by_origin : Drains → List (Origin × DotFlags)
drains_by_origin = votes_by_key origin_cmp

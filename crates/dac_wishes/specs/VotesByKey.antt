-- Votes by key, their stored form: the keys with standing votes, each with their dots and values.
use Rattle.std.specs.Prelude.{List}
use Rattle.std.specs.declared.cmp.Ordering.{Ordering}
use Rattle.std.specs.FinMap as map
use Rattle.dac_lattice.specs.declared.flags.Flag.{Flag}
use Rattle.dac_wishes.specs.KeyedWrites.{KeyedWrite}
use Rattle.dac_wishes.specs.Votes.{Votes, votes_at}
use Rattle.dac_wishes.specs.StoredVotes.{DotFlags}
use Rattle.dac_wishes.specs.ByKey.{by_key, keys_in}

-- the keys that have a vote, in ascending order
unfoldable pub voted_keys : {K : Type 0} (R : K → K → Ordering) → Votes R → List K
voted_keys {K = K} R votes = keys_in R (λ (e : KeyedWrite K × Flag). e.0.key) (map.entries votes)

-- each key that has a vote, with its votes
unfoldable pub votes_by_key : {K : Type 0} (R : K → K → Ordering) → Votes R → List (K × DotFlags)
votes_by_key R votes = by_key (λ k. votes_at R k votes) (voted_keys R votes)

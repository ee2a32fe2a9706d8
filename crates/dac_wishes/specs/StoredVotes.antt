-- The stored form of votes: for each key a map from dots to flags, paired with the context of the known dots.
use Rattle.std.specs.Prelude.{List, [], ◌∷◌, Option, None, Some, map as list_map}
use Rattle.std.specs.declared.cmp.Ordering.{Ordering}
use Rattle.std.specs.List.{flat_map}
use Rattle.std.specs.FinMap as map
use Rattle.dac_origins.specs.declared.dot.Dot.{Dot}
use Rattle.dac_origins.specs.Dots.{dot_cmp}
use Rattle.dac_lattice.specs.declared.flags.Flag.{Flag}
use Rattle.dac_lattice.specs.Chains.{IsAny}
use Rattle.dac_lattice.specs.Maps.{IsMap}
use Rattle.dac_store.specs.Stores.{Stored, IsStored}
use Rattle.dac_store.specs.DotFuns.{has_dot, is_empty_list}
use Rattle.dac_store.specs.DotMaps.{has_in, IsKeyed}
use Rattle.dac_wishes.specs.KeyedWrites.{KeyedWrite, keyed_write}
use Rattle.dac_wishes.specs.Votes.{Votes, VotesValue}

-- the votes at a key
abbrev pub DotFlags : Type 0
DotFlags = List (Dot × Flag)

-- the votes at each key, and the known dots
abbrev pub StoredVotes : Type 0 → Type 0
StoredVotes K = Stored (List (K × DotFlags))

-- the invariant of the stored list: the keys are sorted, and each has votes in the order of their dots
abbrev pub AreKeyedVotes : {K : Type 0} → (K → K → Ordering) → List (K × DotFlags) → Type 0
AreKeyedVotes R = IsKeyed R (IsMap dot_cmp IsAny) is_empty_list

-- the keys are sorted, each has votes in the order of their dots, and each dot is known
abbrev pub AreStoredVotes : {K : Type 0} → (K → K → Ordering) → StoredVotes K → Type 0
AreStoredVotes R = IsStored (AreKeyedVotes R) (has_in has_dot)

-- the votes of a key
abbrev pub keyed_votes : {K : Type 0} → K → DotFlags → List (KeyedWrite K × Flag)
keyed_votes key ps = list_map (λ (p : Dot × Flag). (keyed_write key p.0, p.1)) ps

-- the votes of each key
unfoldable pub votes_of : {K : Type 0} (R : K → K → Ordering) → List (K × DotFlags) → Votes R
votes_of {K = K} R m = map.from_entries (flat_map (λ (e : K × DotFlags). keyed_votes e.0 e.1) m)

-- the votes that a stored form represents
abbrev pub votes_value_of : {K : Type 0} (R : K → K → Ordering) → StoredVotes K → VotesValue R
votes_value_of R v = record { known = v.context; standing = votes_of R v.store }

-- the stored form of a vote, if there is one
abbrev pub stored_vote : {K : Type 0} → Dot → Option (K × Flag) → List (K × DotFlags)
stored_vote d None = []
stored_vote d (Some v) = (v.0, (d, v.1) ∷ []) ∷ []

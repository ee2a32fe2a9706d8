-- The stored form of permissions: for each key a map from dots to flags, paired with the context of the known dots.
use Rattle.std.specs.Prelude.{List}
use Rattle.dac_wishes.specs.declared.key.Key.{Key}
use Rattle.dac_wishes.specs.Keys.{key_cmp}
use Rattle.dac_wishes.specs.PermissionsValue.{PermissionsValue, Permits}
use Rattle.dac_wishes.specs.StoredVotes.{StoredVotes, AreStoredVotes, votes_of, votes_value_of}
pub use Rattle.dac_wishes.specs.StoredVotes.{DotFlags}

-- the permits at each key, and the known dots
abbrev pub StoredFlags : Type 0
StoredFlags = StoredVotes Key

-- the keys are sorted, each has permits in the order of their dots, and each dot is known
abbrev pub AreStoredFlags : StoredFlags → Type 0
AreStoredFlags = AreStoredVotes key_cmp

-- the permits of each key
abbrev pub permits_of : List (Key × DotFlags) → Permits
permits_of = votes_of key_cmp

-- the permissions that a stored form represents
abbrev pub permissions_of : StoredFlags → PermissionsValue
permissions_of = votes_value_of key_cmp

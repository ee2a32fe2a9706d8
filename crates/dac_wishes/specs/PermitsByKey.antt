-- Permits by key, their stored form: the keys with standing permits, each with their dots and values.
use Rattle.std.specs.Prelude.{List}
use Rattle.dac_wishes.specs.declared.key.Key.{Key}
use Rattle.dac_wishes.specs.Keys.{key_cmp}
use Rattle.dac_wishes.specs.PermissionsValue.{Permits}
use Rattle.dac_wishes.specs.StoredPermits.{DotFlags}
use Rattle.dac_wishes.specs.StoredVotes.{AreKeyedVotes}
use Rattle.dac_wishes.specs.VotesByKey.{votes_by_key}

-- each key that has a permit, with its permits
abbrev pub permits_by_key : Permits → List (Key × DotFlags)
permits_by_key = votes_by_key key_cmp

-- the invariant of the stored list: the keys are sorted, and each has permits in the order of their dots
abbrev pub ArePermits : List (Key × DotFlags) → Type 0
ArePermits = AreKeyedVotes key_cmp

-- Laws of the definitions in `PermitsByKey`.
use Rattle.std.specs.Prelude.{◌≡◌, T, List, []}
use Rattle.std.specs.FinMap as map
use Rattle.std.specs.FinMap.{find, is_sorted}
use Rattle.dac_origins.specs.declared.dot.Dot.{Dot}
use Rattle.dac_origins.specs.Dots.{dot_cmp}
use Rattle.dac_store.specs.DotMaps.{store_at}
use Rattle.dac_wishes.specs.declared.key.Key.{Key}
use Rattle.dac_wishes.specs.Keys.{key_cmp}
use Rattle.dac_wishes.specs.laws.Keys.{keys_total, exact_keys}
use Rattle.dac_wishes.specs.Writes.{write}
use Rattle.dac_wishes.specs.PermissionsValue.{Permits, permits_at}
use Rattle.dac_wishes.specs.StoredPermits.{DotFlags, permits_of}
use Rattle.dac_wishes.specs.laws.VotesByKey.{find-votes_at, votes_at-sorted, votes_stored, are_votes, votes_again, votes_by_key_again}
use Rattle.dac_wishes.specs.PermitsByKey.{ArePermits, permits_by_key}

-- the permit at a dot of a key is the standing one
pub find-permits_at : (key : Key) (permits : Permits) (d : Dot) → find dot_cmp d (permits_at key permits) ≡ map.get permits (write key d)
find-permits_at = find-votes_at keys_total exact_keys

pub permits_at-sorted : (key : Key) (permits : Permits) → T (is_sorted dot_cmp (permits_at key permits))
permits_at-sorted = votes_at-sorted keys_total exact_keys

-- the permits stored at a key are those that stand there
pub permits_stored : (m : List (Key × DotFlags)) → ArePermits m → (key : Key) → store_at [] (find key_cmp key m) ≡ permits_at key (permits_of m)
permits_stored = votes_stored keys_total exact_keys

-- the permits by key satisfy the stored invariant
pub are_permits : (permits : Permits) → ArePermits (permits_by_key permits)
are_permits = are_votes keys_total exact_keys

-- a stored list equals its permits by key
pub permits_again : (m : List (Key × DotFlags)) → ArePermits m → permits_by_key (permits_of m) ≡ m
permits_again = votes_again keys_total exact_keys

-- permits equal those of their list by key
pub by_key_again : (permits : Permits) → permits_of (permits_by_key permits) ≡ permits
by_key_again = votes_by_key_again keys_total exact_keys

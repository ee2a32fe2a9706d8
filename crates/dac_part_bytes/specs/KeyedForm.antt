-- Well-formed permits, drains and start wishes, which are those that can be read: their keys are in the configuration,
-- their dots are known, and their numbers fit the fields of counts.
use Rattle.std.specs.Prelude.{◌≡◌, ◌<◌, ◌^◌, true, length, Option, is_some}
use Rattle.std.specs.declared.cmp.Ordering.{Ordering}
use Rattle.std.specs.FinSet as set
use Rattle.std.specs.FinMap as map
use Rattle.dac_origins.specs.declared.dot.Dot.{Dot}
use Rattle.dac_origins.specs.Dots.{Dots, origin_cmp}
use Rattle.dac_origins.specs.InOrder.{in_order}
use Rattle.dac_wishes.specs.declared.key.Key.{Key}
use Rattle.dac_wishes.specs.Keys.{key_cmp}
use Rattle.dac_wishes.specs.KeyedWrites.{KeyedWrite}
use Rattle.dac_wishes.specs.Writes.{Write, Writes, dots_at}
use Rattle.dac_wishes.specs.PermissionsValue.{Permits}
use Rattle.dac_wishes.specs.DrainsValue.{Drains}
use Rattle.dac_wishes.specs.StartsByKey.{starts_by_key}
use Rattle.dac_wishes.specs.Votes.{Votes, votes_at}
use Rattle.dac_wishes.specs.VotesByKey.{votes_by_key}
use Rattle.dac_config.specs.Table.{Table, node_count, app_count}
use Rattle.dac_bytes.specs.Ranges.{IsOrigin, IsDot}
use Rattle.dac_bytes.specs.Reading.{is_above}
use Rattle.dac_part_bytes.specs.Reading.{is_listed}
use Rattle.dac_part_bytes.specs.Spelling.{key_origin}
use Rattle.dac_bytes.specs.declared.version.Version.{Version}
use Rattle.dac_bytes.specs.declared.version.Version.TheVariants.{One, Two}

-- an existing application, an existing node with an incarnation from 1, and the node in the application's list
pub record IsKey (version : Version) (t : Table) (key : Key) : Type 0 where
  pub app : key.app.0 < app_count t
  pub origin : IsOrigin version (node_count t) (key_origin key)
  pub listed : is_listed t key.app key.node ≡ true

-- a key greater than the previous one
abbrev pub IsKeyAbove : Version → Table → Option Key → Key → Type 0
IsKeyAbove version t before key = IsKey version t key × (is_above key_cmp before key ≡ true)

-- a dot that is in range and known
pub record IsKnownDot (version : Version) (t : Table) (known : Dots) (d : Dot) : Type 0 where
  pub dot : IsDot version (node_count t) d
  pub among : set.contains known d ≡ true

-- an entry with an existing key and a known dot in range
pub record IsKnownWrite {K : Type 0} (IsKeyOf : K → Type 0) (version : Version) (t : Table) (known : Dots)
    (w : KeyedWrite K) : Type 0 where
  pub key : IsKeyOf w.key
  pub dot : IsKnownDot version t known w.dot

-- votes are well-formed
pub record AreVotesInForm {K : Type 0} (R : K → K → Ordering) (IsKeyOf : K → Type 0) (version : Version) (t : Table)
    (known : Dots) (votes : Votes R) : Type 0 where
  -- each of them has an existing key and a known dot
  pub each : (w : KeyedWrite K) → is_some (map.get votes w) ≡ true → IsKnownWrite IsKeyOf version t known w
  -- the number of keys with votes fits its field
  pub keys : length (votes_by_key R votes) < 2 ^ 32
  -- the number of votes of a key fits its field
  pub dots : (key : K) → length (votes_at R key votes) < 2 ^ 32

-- well-formed permits have keys of the configuration
abbrev pub ArePermitsInForm : Version → Table → Dots → Permits → Type 0
ArePermitsInForm version t known = AreVotesInForm key_cmp (IsKey version t) version t known

-- well-formed drains have incarnations of the configuration's nodes; version one has none
abbrev pub AreDrainsInForm : Version → Table → Dots → Drains → Type 0
AreDrainsInForm One t known drains = drains ≡ map.empty
AreDrainsInForm Two t known drains = AreVotesInForm origin_cmp (IsOrigin Two (node_count t)) Two t known drains

-- start wishes are well-formed
pub record AreStartsInForm (version : Version) (t : Table) (known : Dots) (writes : Writes) : Type 0 where
  -- each of them has a key of the configuration and a known dot
  pub each : (w : Write) → set.contains writes w ≡ true → IsKnownWrite (IsKey version t) version t known w
  -- the number of keys with wishes fits its field
  pub keys : length (starts_by_key writes) < 2 ^ 32
  -- the number of wishes of a key fits its field
  pub dots : (key : Key) → length (in_order (dots_at key writes)) < 2 ^ 32

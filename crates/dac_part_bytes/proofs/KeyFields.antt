-- The codecs of keys and known dots, the fields of permits, drains and start wishes.
use Rattle.std.specs.Prelude.{◌≡◌, ℕ, ◌^◌, ◌<◌, ◌≤◌, true, Option, refl}
use Rattle.std.specs.FinSet as set
use Rattle.dac_part_bytes.proofs.Common.{Dot, Dots, dot_cmp, Key, key_cmp, Table, node_count, app_count, BadOrder, IsOrigin, origin_at, is_above, origin_bytes, dot_bytes, TakesAs, Again, TakesAs-more, TakesAs-wanted, TakesAs-both, Again-wanted, Again-both, IsNext, app_at, key_above_at, known_dot_at, app_bytes, key_bytes, IsKey, IsKeyAbove, IsKnownDot, Version}
use Rattle.dac_bytes.specs.declared.fault.ReadFaultKind.TheVariants.{NotInList, NotKnown}
use Rattle.dac_bytes.specs.Ranges.{IsDot}
use Rattle.dac_bytes.specs.Reading.{dot_above_at}
use Rattle.dac_bytes.specs.laws.Fields.{origin_takes, origin_again, dot_above_takes, dot_above_again}
use Rattle.dac_part_bytes.specs.Reading.{key_of, is_listed, key_fields_at, listed_key_at}
use Rattle.dac_part_bytes.specs.Spelling.{key_origin}
use Rattle.dac_part_bytes.proofs.Apps.{app_takes, app_again}

-- ---- keys

-- the application and the node exist
abbrev IsNamed : Version → Table → Key → Type 0
IsNamed version t key = (key.app.0 < app_count t) × IsOrigin version (node_count t) (key_origin key)

module _ (version : Version) (t : Table) where
  key_fields_takes : TakesAs (key_fields_at version t) (key_bytes version) (IsNamed version t)
  unfolding key_fields_at key_bytes
  key_fields_takes =
      TakesAs-both (app_at (app_count t)) app_bytes (λ app. app.0 < app_count t) (λ _ r. origin_at version (node_count t) r) (λ _. origin_bytes version) (λ _ o. IsOrigin version (node_count t) o)
      (λ app o. key_of app o) (key_bytes version) (IsNamed version t)
      (app_takes (app_count t)) (λ _ _. origin_takes version (node_count t)) (λ app o p q. (refl, (p, q)))

  listed_key_takes : TakesAs (listed_key_at version t) (key_bytes version) (IsKey version t)
  unfolding listed_key_at
  listed_key_takes =
      TakesAs-more (listed_key_at version t) (key_bytes version) (λ key. IsNamed version t key × (is_listed t key.app key.node ≡ true)) (IsKey version t)
      (TakesAs-wanted (key_fields_at version t) (key_bytes version) (IsNamed version t) (λ key. is_listed t key.app key.node) NotInList key_fields_takes)
      (λ key is. record { app = is.0.0; origin = is.0.1; listed = is.1 })

  pub key_takes : (before : Option Key) → TakesAs (key_above_at version t before) (key_bytes version) (IsKeyAbove version t before)
  unfolding key_above_at
  key_takes before = TakesAs-wanted (listed_key_at version t) (key_bytes version) (IsKey version t) (is_above key_cmp before) BadOrder listed_key_takes

  module _ (few_nodes : node_count t ≤ 2 ^ 8) (few_apps : app_count t ≤ 2 ^ 16) where
    key_fields_again : (key : Key) → IsNamed version t key → Again (key_fields_at version t) (key_bytes version key) key
    unfolding key_fields_at key_bytes
    key_fields_again key is =
        Again-both (app_at (app_count t)) (λ _ r. origin_at version (node_count t) r) (λ app o. key_of app o) (app_bytes key.app) (origin_bytes version (key_origin key)) key.app (key_origin key)
        (app_again (app_count t) few_apps key.app is.0) (origin_again version (node_count t) few_nodes (key_origin key) is.1)

    listed_key_again : (key : Key) → IsKey version t key → Again (listed_key_at version t) (key_bytes version key) key
    unfolding listed_key_at
    listed_key_again key is = Again-wanted (key_fields_at version t) (λ key. is_listed t key.app key.node) NotInList (key_bytes version key) key (key_fields_again key (is.app, is.origin)) is.listed

    pub key_again : (before : Option Key) (key : Key) → IsKeyAbove version t before key → Again (key_above_at version t before) (key_bytes version key) key
    unfolding key_above_at
    key_again before key is = Again-wanted (listed_key_at version t) (is_above key_cmp before) BadOrder (key_bytes version key) key (listed_key_again key is.0) is.1

-- ---- dots

-- a known dot greater than the previous one
abbrev pub IsDotAbove : Version → Table → Dots → Option Dot → Dot → Type 0
IsDotAbove version t known = IsNext dot_cmp (λ (d : Dot). d) (IsKnownDot version t known)

module _ (version : Version) (t : Table) (known : Dots) where
  abbrev nodes : ℕ
  nodes = node_count t

  pub known_dot_takes : (before : Option Dot) → TakesAs (known_dot_at version nodes known before) (dot_bytes version) (IsDotAbove version t known before)
  unfolding known_dot_at
  known_dot_takes before =
      TakesAs-more (known_dot_at version nodes known before) (dot_bytes version) (λ d. (IsDot version nodes d × (is_above dot_cmp before d ≡ true)) × (set.contains known d ≡ true)) (IsDotAbove version t known before)
      (TakesAs-wanted (dot_above_at version nodes before) (dot_bytes version) (λ d. IsDot version nodes d × (is_above dot_cmp before d ≡ true)) (λ d. set.contains known d) NotKnown (dot_above_takes version nodes before))
      (λ d is. (record { dot = is.0.0; among = is.1 }, is.0.1))

  module _ (few_nodes : node_count t ≤ 2 ^ 8) where
    pub known_dot_again : (before : Option Dot) (d : Dot) → IsDotAbove version t known before d → Again (known_dot_at version nodes known before) (dot_bytes version d) d
    unfolding known_dot_at
    known_dot_again before d is = Again-wanted (dot_above_at version nodes before) (λ d. set.contains known d) NotKnown (dot_bytes version d) d (dot_above_again version nodes few_nodes before d is.0.dot is.1) is.0.among

-- The codecs of fields and parts, given a version and a configuration.
use Rattle.std.specs.Prelude.{◌<◌, Option}
use Rattle.dac_base.specs.declared.NodeId.{NodeId}
use Rattle.dac_chains.specs.declared.claims.How.{How}
use Rattle.dac_origins.specs.Dots.{Dots}
use Rattle.dac_wishes.specs.declared.key.Key.{Key}
use Rattle.dac_config.specs.Table.{Table, node_count, app_count}
use Rattle.dac_bytes.specs.FieldCodecs.{FieldCodecs}
use Rattle.dac_bytes.specs.Takes.{IsCodec}
use Rattle.dac_part_bytes.specs.ChainForm.{IsConsistentOrigin, AreLivesInForm, AreClaimsInForm}
use Rattle.dac_part_bytes.specs.KeyedForm.{IsKeyAbove, ArePermitsInForm, AreStartsInForm, AreDrainsInForm}
use Rattle.dac_part_bytes.specs.Reading.{app_at, key_above_at, manner_at, all_permits_at, all_starts_at, all_lives_at, all_claims_at, all_drains_at}
use Rattle.dac_part_bytes.specs.Spelling.{app_bytes, key_bytes, manner_bytes, permits_bytes, starts_bytes, lives_bytes, claims_bytes, drains_bytes}
use Rattle.dac_bytes.specs.declared.version.Version.{Version}

pub record PartCodecs (version : Version) (t : Table) : Type 0 where
  pub fields : FieldCodecs version (node_count t)
  pub app : IsCodec (app_at (app_count t)) app_bytes (λ app. app.0 < app_count t)
  -- a key greater than the previous one
  pub key : (before : Option Key)
      → IsCodec (key_above_at version t before) (key_bytes version) (IsKeyAbove version t before)
  pub manner : IsCodec (manner_at (node_count t)) (λ (m : How × Option NodeId). manner_bytes m.0 m.1)
      (λ m. IsConsistentOrigin (node_count t) m.0 m.1)
  -- the parts that depend on the known dots
  pub permits : (known : Dots)
      → IsCodec (all_permits_at version t known) (permits_bytes version) (ArePermitsInForm version t known)
  pub starts : (known : Dots)
      → IsCodec (all_starts_at version t known) (starts_bytes version) (AreStartsInForm version t known)
  pub lives : IsCodec (all_lives_at version (node_count t)) (lives_bytes version)
      (AreLivesInForm version (node_count t))
  pub claims : IsCodec (all_claims_at version t) (claims_bytes version) (AreClaimsInForm version t)
  pub drains : (known : Dots)
      → IsCodec (all_drains_at version t known) (drains_bytes version) (AreDrainsInForm version t known)

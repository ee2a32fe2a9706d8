-- The codecs of fields, given a version and the number of nodes.
use Rattle.std.specs.Prelude.{ℕ, ◌<◌, ◌≤◌, ◌^◌, Option}
use Rattle.std.specs.Int.{w8, w16, w32, w64}
use Rattle.dac_base.specs.declared.NodeId.{NodeId}
use Rattle.dac_base.specs.declared.limits.TheConstants.{MAX_COUNTER}
use Rattle.dac_origins.specs.declared.dot.Origin.{Origin}
use Rattle.dac_origins.specs.declared.dot.Dot.{Dot}
use Rattle.dac_origins.specs.Dots.{dot_cmp, origin_cmp}
use Rattle.dac_bytes.specs.declared.version.Version.{Version}
use Rattle.dac_bytes.specs.Numbers.{u8_bytes, u16_bytes, u32_bytes, u64_bytes}
use Rattle.dac_bytes.specs.Ranges.{IsOrigin, IsDot, IsContext}
use Rattle.dac_bytes.specs.Reading.{number_at, range_at, node_at, incarnation_or_zero_at, counter_at, origin_at, dot_at, origin_above_at, dot_above_at, is_above, context_at}
use Rattle.dac_bytes.specs.Spelling.{incarnation_bytes, origin_bytes, dot_bytes, context_bytes}
use Rattle.dac_bytes.specs.Takes.{IsCodec, Passes}
use Rattle.dac_bytes.specs.Versions.{highest_incarnation}

pub record FieldCodecs (version : Version) (nodes : ℕ) : Type 0 where
  -- numbers of the width in their name; `_in` restricts them to a range
  pub u8_in : (low high : ℕ) → high < 2 ^ 8 → IsCodec (range_at w8 low high) u8_bytes (λ n. (low ≤ n) × (n ≤ high))
  pub u16 : IsCodec (number_at w16) u16_bytes (λ n. n < 2 ^ 16)
  pub u32 : IsCodec (number_at w32) u32_bytes (λ n. n < 2 ^ 32)
  pub u64_in : (low high : ℕ) → high < 2 ^ 64 → IsCodec (range_at w64 low high) u64_bytes (λ n. (low ≤ n) × (n ≤ high))
  pub counter : IsCodec counter_at u64_bytes (λ n. (1 ≤ n) × (n ≤ MAX_COUNTER))
  pub incarnation_or_zero : IsCodec (incarnation_or_zero_at version) (incarnation_bytes version)
      (λ n. n ≤ highest_incarnation version)
  pub node : IsCodec (node_at nodes) (λ (node : NodeId). u8_bytes node.0) (λ node. node.0 < nodes)
  pub origin : IsCodec (origin_at version nodes) (origin_bytes version) (IsOrigin version nodes)
  pub dot : IsCodec (dot_at version nodes) (dot_bytes version) (IsDot version nodes)
  -- an origin greater than the previous one
  pub origin_above : (before : Option Origin)
      → IsCodec (origin_above_at version nodes before) (origin_bytes version)
      (Passes (IsOrigin version nodes) (is_above origin_cmp before))
  -- a dot greater than the previous one
  pub dot_above : (before : Option Dot)
      → IsCodec (dot_above_at version nodes before) (dot_bytes version)
      (Passes (IsDot version nodes) (is_above dot_cmp before))
  pub context : IsCodec (context_at version nodes) (context_bytes version) (IsContext version nodes)

-- The range of origins, dots and contexts that can be read, given a version and the number of nodes.
use Rattle.std.specs.Prelude.{◌≡◌, ℕ, ◌+◌, ◌<◌, ◌≤◌, ◌^◌, true, length}
use Rattle.std.specs.List.{AllByRecursion}
use Rattle.std.specs.FinSet as set
use Rattle.dac_base.specs.declared.limits.TheConstants.{MAX_COUNTER}
use Rattle.dac_origins.specs.Dots.{Dots}
use Rattle.dac_origins.specs.declared.dot.Origin.{Origin}
use Rattle.dac_origins.specs.declared.dot.Dot.{Dot}
use Rattle.dac_bytes.specs.declared.version.Version.{Version}
use Rattle.dac_bytes.specs.Versions.{highest_incarnation}
use Rattle.dac_bytes.specs.Items.{Chain}
use Rattle.dac_dots.specs.Rows.{Row, rows_of}

-- an incarnation: from 1 to the version's maximum
abbrev pub IsIncarnation : Version → ℕ → Type 0
IsIncarnation version n = (1 ≤ n) × (n ≤ highest_incarnation version)

-- an existing node, and an incarnation
pub record IsOrigin (version : Version) (nodes : ℕ) (o : Origin) : Type 0 where
  pub node : o.node.0 < nodes
  pub inc : IsIncarnation version o.inc

-- an origin, and a counter that can be issued
pub record IsDot (version : Version) (nodes : ℕ) (d : Dot) : Type 0 where
  pub origin : IsOrigin version nodes d.origin
  pub first : 1 ≤ d.n
  pub last : d.n ≤ MAX_COUNTER

-- a further counter greater than `low`
pub record IsFurther (low n : ℕ) : Type 0 where
  pub first : 1 ≤ n
  pub last : n ≤ MAX_COUNTER
  pub above : low < n

-- the dots of an origin that can be written: 1 to `upto`, and further ones that don't continue these. There is at least
-- one
pub record IsRow (version : Version) (nodes : ℕ) (row : Row) : Type 0 where
  pub origin : IsOrigin version nodes row.origin
  pub upto : row.upto ≤ MAX_COUNTER
  pub further : Chain IsFurther (λ n. n) (row.upto + 1) row.further
  pub count : length row.further < 2 ^ 32
  pub some : row.upto ≡ 0 → 1 ≤ length row.further

-- each dot is in range
abbrev pub InRange : Version → ℕ → Dots → Type 0
InRange version nodes dots = (d : Dot) → set.contains dots d ≡ true → IsDot version nodes d

-- the counts fit their fields
pub record CountsFit (dots : Dots) : Type 0 where
  pub origins : length (rows_of dots) < 2 ^ 16
  pub further : AllByRecursion (λ (row : Row). length row.further < 2 ^ 32) (rows_of dots)

-- a context that can be read
abbrev pub IsContext : Version → ℕ → Dots → Type 0
IsContext version nodes dots = InRange version nodes dots × CountsFit dots

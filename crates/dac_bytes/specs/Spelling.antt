-- Origins, dots and contexts as bytes.
use Rattle.std.specs.Prelude.{ℕ, List, ◌++◌, length}
use Rattle.std.specs.Int.{to_be_bytes}
use Rattle.std.specs.List.{flat_map}
use Rattle.dac_origins.specs.Dots.{Dots}
use Rattle.dac_origins.specs.declared.dot.Origin.{Origin}
use Rattle.dac_origins.specs.declared.dot.Dot.{Dot}
use Rattle.dac_bytes.specs.declared.version.Version.{Version}
use Rattle.dac_bytes.specs.Versions.{incarnation_width}
use Rattle.dac_bytes.specs.Numbers.{u8_bytes, u16_bytes, u32_bytes, u64_bytes}
use Rattle.dac_dots.specs.Rows.{Row, rows_of}

-- an incarnation, in four or eight bytes
unfoldable pub incarnation_bytes : Version → ℕ → List ℕ
incarnation_bytes version n = to_be_bytes (incarnation_width version) n

-- node and incarnation, in five or nine bytes
unfoldable pub origin_bytes : Version → Origin → List ℕ
origin_bytes version origin = u8_bytes origin.node.0 ++ incarnation_bytes version origin.inc

-- origin and counter, in thirteen or seventeen bytes
unfoldable pub dot_bytes : Version → Dot → List ℕ
dot_bytes version d = origin_bytes version d.origin ++ u64_bytes d.n

-- origin, the last contiguous counter, the number of further ones, and these
unfoldable pub row_bytes : Version → Row → List ℕ
row_bytes version row = origin_bytes version row.origin ++ u64_bytes row.upto ++ u32_bytes (length row.further)
    ++ flat_map u64_bytes row.further

-- the number of origins that have dots, and the row of each
unfoldable pub context_bytes : Version → Dots → List ℕ
context_bytes version dots = let rows = rows_of dots in u16_bytes (length rows) ++ flat_map (row_bytes version) rows

-- The versions of the bytes. They differ in the width of an incarnation: four bytes, or eight.
use Rattle.std.specs.Prelude.{ℕ, ◌-◌, ◌^◌}
use Rattle.std.specs.Int.{Width, w32, w64}
use Rattle.dac_base.specs.declared.limits.TheConstants.{MAX_INCARNATION}
use Rattle.dac_bytes.specs.declared.version.Version.{Version}
use Rattle.dac_bytes.specs.declared.version.Version.TheVariants.{One, Two}

-- the width of an incarnation
abbrev pub incarnation_width : Version → Width
incarnation_width One = w32
incarnation_width Two = w64

-- the maximum incarnation that is read
abbrev pub highest_incarnation : Version → ℕ
highest_incarnation One = 2 ^ 32 - 1
highest_incarnation Two = MAX_INCARNATION

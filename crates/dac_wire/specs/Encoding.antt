-- The faults of encoding a packet of `count` bytes.
use Rattle.std.specs.Prelude.{◌≡◌, ℕ, ◌<◌}
use Rattle.dac_wire.specs.declared.fault.WireFault.{WireFault}
use Rattle.dac_wire.specs.declared.fault.WireFaultKind.{WireFaultKind}
use Rattle.dac_wire.specs.declared.fault.WireFaultKind.TheVariants.{TooLong, NoMemory}
use Rattle.dac_wire.specs.declared.packet.TheConstants.{MAX_MESSAGE}

-- the packet has too many bytes, or memory ran out
abbrev pub IsEncodeFault : ℕ → WireFault → Type 0
IsEncodeFault count fault = IsOf fault.kind
  where
    IsOf : WireFaultKind → Type 0
    IsOf TooLong = (MAX_MESSAGE < count) × (fault.at ≡ MAX_MESSAGE)
    IsOf NoMemory = fault.at ≡ 0
    IsOf _ = ⊥

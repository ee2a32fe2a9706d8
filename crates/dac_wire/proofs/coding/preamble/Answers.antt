use Rattle.std.proofs.Common.{refl}
use Rattle.dac_wire.specs.laws.Common.{u64_bytes, preamble_bytes}
use Rattle.dac_wire.proofs.coding.preamble.Goals as goal

pub returns : goal.returns
unfolding preamble_bytes u64_bytes
returns c = rw (c.version_byte-fourth.ensures, c.to_be_bytes-mark.ensures, c.mark.ensures) refl

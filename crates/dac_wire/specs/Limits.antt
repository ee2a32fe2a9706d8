-- Fixes the limit, so that it can't change unnoticed.
use Rattle.std.specs.Prelude.{◌≡◌, refl}
use Rattle.dac_wire.specs.declared.packet.TheConstants.{MAX_MESSAGE}

pub the_limit : MAX_MESSAGE ≡ 4194304
the_limit = refl

-- The values of the limits, so that no limit can change unnoticed.
use Rattle.std.specs.Prelude.{◌≡◌, ◌^◌, refl}
use Rattle.dac_base.specs.declared.limits.TheConstants.{MAX_NODES, MAX_APPS, MAX_REPLACED, MAX_INCARNATION, MAX_COUNTER}

pub the_limits : (MAX_NODES ≡ 64)
    × ((MAX_APPS ≡ 64) × ((MAX_REPLACED ≡ 1024) × ((MAX_INCARNATION ≡ 2 ^ 62) × (MAX_COUNTER ≡ 2 ^ 62))))
the_limits = (refl, (refl, (refl, (refl, refl))))

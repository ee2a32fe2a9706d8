-- The values of the limits, so that none changes unnoticed.
use Rattle.std.specs.Prelude.{◌≡◌, refl}
use Rattle.dac_base.specs.declared.limits.TheConstants.{MAX_COUNTER}
use Rattle.dac_script.specs.declared.input.TheConstants.{MAX_INPUT}
use Rattle.dac_script.specs.declared.source.TheConstants.{MAX_READS}
use Rattle.dac_script.specs.declared.words.TheConstants.{MAX_NUMBER}

pub the_limits : (MAX_INPUT ≡ 2097152) × ((MAX_READS ≡ 4194304) × (MAX_NUMBER ≡ MAX_COUNTER))
the_limits = (refl, (refl, refl))

-- The value of the limit, so that it can't change unnoticed.
use Rattle.std.specs.Prelude.{◌≡◌, refl}
use Rattle.dac_journal.specs.declared.limits.TheConstants.{MAX_RECORDS}

pub the_limit : MAX_RECORDS ≡ 65536
the_limit = refl

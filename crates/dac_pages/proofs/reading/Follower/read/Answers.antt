use Rattle.std.proofs.Common.{le_refl}
use Rattle.dac_pages.proofs.Places.{rises}
use Rattle.dac_pages.proofs.reading.Follower.read.Goals as goal

pub enter_as-requires : goal.enter_as-requires
enter_as-requires c x = rises _ _ x x (le_refl _)

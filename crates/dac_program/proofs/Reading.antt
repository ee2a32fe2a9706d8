-- A reader from which nothing is read.
use Rattle.std.specs.Prelude.{ℕ, List, [], Option}
use Rattle.std.proofs.Common.{arith}
use Rattle.std.proofs.KnownBytes.{Consumes-nil}
use Rattle.dac_live_play.specs.dac_script.Input.{IsReadWithinBound}

pub nothing_read : (left : Option (List ℕ)) → IsReadWithinBound left left
nothing_read left = record { bytes = []; taken = Consumes-nil left; few = omega arith }

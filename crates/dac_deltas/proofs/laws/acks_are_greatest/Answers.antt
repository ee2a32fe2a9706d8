use Rattle.dac_deltas.specs.laws.Numbers.{nothing_is_greatest, raises_acknowledge}
use Rattle.dac_deltas.proofs.laws.acks_are_greatest.Goals as goal

pub returns : goal.returns
returns c = record { new = nothing_is_greatest; raise = raises_acknowledge }

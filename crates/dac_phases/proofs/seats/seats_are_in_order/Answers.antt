use Rattle.dac_phases.proofs.Seating.{seats_in_order}
use Rattle.dac_phases.proofs.seats.seats_are_in_order.Goals as goal

pub returns : goal.returns
returns c = seats_in_order

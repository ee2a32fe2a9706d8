use Rattle.std.proofs.Common.{◌-◌}
use Rattle.dac_deltas.proofs.Listing.{IsListing}
use Rattle.dac_deltas.proofs.buffer.Buffer.blocks.Given as goal

abbrev pub invariant-loop-at : goal.invariant-loop-at
invariant-loop-at g l = IsListing l.a l.self-inside.count l.at l.blocks.items

abbrev pub decreases-loop-at : goal.decreases-loop-at
decreases-loop-at g l = l.self-inside.count - l.at

use Rattle.std.proofs.Common.{◌-◌}
use Rattle.std.specs.Prelude.{unwrap_or}
use Rattle.dac_deltas.specs.BlockEnds.{deltas_of}
use Rattle.dac_deltas.proofs.Joining.{IsJoining}
use Rattle.dac_deltas.proofs.buffer.Buffer.computed_from.Given as goal

abbrev pub invariant-loop-at : goal.invariant-loop-at
invariant-loop-at g l = IsJoining g.L.Lattice.is_value g.L.Lattice.join g.L.Bottom.bottom l.base l.a l.self-inside.count l.at (deltas_of l.self-inside.kept.items) (unwrap_or l.joined g.L.Bottom.bottom)

abbrev pub decreases-loop-at : goal.decreases-loop-at
decreases-loop-at g l = l.self-inside.count - l.at

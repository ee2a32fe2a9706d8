use Rattle.std.proofs.Common.{ℕ, ◌<◌}
use Rattle.dac_phases.specs.laws.Common.{records_at}
use Rattle.dac_phases.specs.Pairs.{RowHolds}
use Rattle.dac_phases.proofs.pairs.lost_link.Given as goal

abbrev pub invariant-loop-from : goal.invariant-loop-from
invariant-loop-from l = (f : ℕ) → f < l.from → RowHolds l.phases f (records_at l.closed f) l.closed

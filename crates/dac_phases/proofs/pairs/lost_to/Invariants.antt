use Rattle.std.proofs.Common.{ℕ, ◌<◌, ◌≢◌}
use Rattle.dac_phases.specs.laws.Common.{Linked, shipper_seat, worker_seat, records_at}
use Rattle.dac_phases.proofs.pairs.lost_to.Given as goal

abbrev pub invariant-loop-to : goal.invariant-loop-to
invariant-loop-to l = (t : ℕ) → t < l.to → t ≢ l.from → Linked l.phases (record { 0 = t }) (shipper_seat l.from t) (worker_seat t l.from) l.sender (records_at l.closed t)

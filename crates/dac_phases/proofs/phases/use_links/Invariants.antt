use Rattle.std.proofs.Common.{◌<◌, ◌≢◌, ℕ, map}
use Rattle.dac_phases.specs.laws.Common.{Linked, shipper_seat, worker_seat, part_at}
use Rattle.dac_phases.proofs.phases.use_links.Given as goal

abbrev pub invariant-loop-to : goal.invariant-loop-to
invariant-loop-to l = (t : ℕ) → t < l.to → t ≢ l.from → Linked 1 (record { 0 = t }) (shipper_seat l.from t) (worker_seat t l.from) (part_at (map (λ p. p.now) l.parts) l.from) (part_at (map (λ p. p.now) l.parts) t)

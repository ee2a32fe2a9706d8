use Rattle.std.specs.Vec.Iter.{into_iter_items}
use Rattle.dac_run.proofs.Telling.{IsTelling}
use Rattle.dac_run.proofs.phases.workers_of.Given as goal

abbrev pub invariant-loop-outcome : goal.invariant-loop-outcome
invariant-loop-outcome g l = IsTelling g.W.Worker.is_cause l.fn.outcomes.items (into_iter_items l.outcome-iterator) l.workers.items l.told

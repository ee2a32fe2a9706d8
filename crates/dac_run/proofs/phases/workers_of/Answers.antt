use Rattle.std.proofs.Common.{◌∷◌, Ok, Err, ap, ◌∙◌}
use Rattle.std.specs.Vec.Iter.{into_iter_items}
use Rattle.dac_run.proofs.Telling.{a_worker, a_fault, one_more}
use Rattle.dac_run.proofs.phases.workers_of.Goals as goal

pub loop-outcome-preserved-in-Continue-1 : goal.loop-outcome-preserved-in-Continue-1
loop-outcome-preserved-in-Continue-1 g c =
    let rest = into_iter_items c.next.new.self in
    let is = c.loop-outcome.invariant in
    one_more g.W.Worker.is_cause _ _ rest _ _ _ c.loop-outcome.told (Ok c.in-Ok.worker) is (c.in-Some.ensures.steps.0 ∙ ap (λ o. o ∷ rest) c.in-Ok.is)
    (a_worker g.W.Worker.is_cause is.seen c.loop-outcome.workers.items c.push.new.self.items c.loop-outcome.told c.in-Ok.worker c.in_ok-push-in-Ok.ensures.items is.tells)

pub loop-outcome-preserved : goal.loop-outcome-preserved
loop-outcome-preserved g c =
    let rest = into_iter_items c.next.new.self in
    let is = c.loop-outcome.invariant in
    let louder = c.louder.ensures in
    one_more g.W.Worker.is_cause _ _ rest _ _ _ _ (Err c.in-Err.fault) is (c.in-Some.ensures.steps.0 ∙ ap (λ o. o ∷ rest) c.in-Err.is)
    (a_fault g.W.Worker.is_cause is.seen c.loop-outcome.workers.items c.loop-outcome.told c.in-Err.fault c.louder.result louder.cause louder.kept louder.alone is.tells)

use Rattle.std.proofs.Common.{refl, ◌∙◌}
use Rattle.dac_workers.proofs.Shipping.{ships_none, ships_more}
use Rattle.dac_workers.proofs.links.ship_times.Goals as goal

pub loop-count-init : goal.loop-count-init
loop-count-init g c = record { number = refl; link = refl; ships = ships_none _ _ _ _ }

pub loop-count-preserved : goal.loop-count-preserved
loop-count-preserved g c =
    let i = c.loop-count.invariant in
    let s = c.in_ok-ship_once.ensures in
    record { number = s.number ∙ i.number; link = s.link ∙ i.link; ships = ships_more _ _ _ _ _ _ _ _ _ i.ships s.ok }

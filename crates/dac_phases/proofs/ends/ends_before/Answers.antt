use Rattle.std.proofs.Common.{◌-◌, length, sym, ◌∙◌}
use Rattle.dac_phases.proofs.Ended.{ends_more}
use Rattle.dac_phases.proofs.ends.ends_before.Goals as goal

pub loop-i-preserved : goal.loop-i-preserved
loop-i-preserved c =
    ends_more c.args.closed.now c.args.rests.now c.loop-i.i c.index-closed-i.result c.index-rests-i.result c.loop-i.row.items c.push.new.self.items c.saturating_sub.result c.loop-i-test.true c.requires c.index-closed-i.is c.index-rests-i.is
    (c.saturating_sub.ensures ∙ (λ k. length (c.records-all.ensures.value k) - length (sym c.index-rests-i.is k).now))
    c.in_ok-push.ensures.items c.loop-i.invariant

use Rattle.std.proofs.Common.{All, subst, take_all}
use Rattle.dac_live.proofs.Common.{HasLines}
use Rattle.std.proofs.lemmas.List.Elements.{All-more}
use Rattle.dac_live.proofs.owed.are_runnable.Goals as goal

pub loop-phase-preserved : goal.loop-phase-preserved
loop-phase-preserved c =
    let owed = HasLines c.nodes-nodes.result in
    All-more owed c.args.phases.now c.loop-phase.phase-index c.phase-item.result c.loop-phase-test.true c.loop-phase.invariant
    (subst owed c.phase-item.is (c.has_lines.ensures c.if-not-has_lines.false))

pub returns : goal.returns
returns c here =
    subst (λ nodes. All (HasLines nodes) c.args.phases.now) c.nodes-nodes.ensures.count
    (subst (All (HasLines c.nodes-nodes.result)) (take_all c.loop-phase.phase-index c.args.phases.now c.loop-phase-test.false) c.loop-phase.invariant)

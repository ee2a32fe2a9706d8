use Rattle.std.proofs.Common.{cond, sym, ap, ◌∙◌, arith}
use Rattle.dac_phases.specs.Ends.{call_one}
use Rattle.dac_phases.proofs.Counted.{counted_read}
use Rattle.dac_phases.proofs.phases.calls_at.Goals as goal
use Rattle.dac_phases.proofs.phases.calls_at.Goals.{then-calls, else-calls}

pub loop-i-preserved : goal.loop-i-preserved
loop-i-preserved c =
    let f = call_one c.args.node.0 in
    elim c.if-calls.branch [
      | then-calls w ↦
          let more = counted_read f c.args.lines.now c.loop-i.i 1 _ c.loop-i-test.true (ap (λ b. cond b 1 0) (sym w.if-calls.true) ∙ c.calls.ensures) in
          record { counted = omega (arith, more, w.count-is, c.loop-i.invariant.counted); few = omega (arith, w.count-is, c.loop-i.invariant.few) }
      | else-calls w ↦
          let more = counted_read f c.args.lines.now c.loop-i.i 0 _ c.loop-i-test.true (ap (λ b. cond b 1 0) (sym w.if-calls.false) ∙ c.calls.ensures) in
          record { counted = omega (arith, more, w.count-is, c.loop-i.invariant.counted); few = omega (arith, w.count-is, c.loop-i.invariant.few) }
    ]

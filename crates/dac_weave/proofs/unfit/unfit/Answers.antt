use Rattle.std.proofs.Common.{◌+◌, Option, subst, sym, ℕ}
use Rattle.dac_weave.specs.laws.Common.{IsUnfit}
use Rattle.dac_weave.proofs.Least.{SoFar, passed, failed, first_of}
use Rattle.dac_weave.proofs.unfit.unfit.Goals as goal
use Rattle.dac_weave.proofs.unfit.unfit.Goals.{then-is_unfit, else-is_unfit}

pub loop-i-preserved : goal.loop-i-preserved
loop-i-preserved c =
    let js = c.args.journals.now in
    let i = c.loop-i.i in
    elim c.if-is_unfit.branch [
      | then-is_unfit w ↦ subst (λ (o : Option ℕ). SoFar js (IsUnfit js) (i + 1) o) (sym w.least-is) (passed js (IsUnfit js) i c.loop-i.least c.loop-i-test.true c.loop-i.invariant c.is_unfit.result c.is_unfit.ensures w.if-is_unfit.true w.lesser.result w.lesser.ensures)
      | else-is_unfit w ↦ subst (λ (o : Option ℕ). SoFar js (IsUnfit js) (i + 1) o) (sym w.least-is) (failed js (IsUnfit js) i c.loop-i.least c.loop-i-test.true c.loop-i.invariant c.is_unfit.result c.is_unfit.ensures w.if-is_unfit.false)
    ]

pub returns : goal.returns
returns c = first_of c.args.journals.now (IsUnfit c.args.journals.now) c.loop-i.i c.loop-i.least c.loop-i-test.false c.loop-i.invariant

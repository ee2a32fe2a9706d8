use Rattle.std.proofs.Common.{◌<◌, ◌+◌, ℕ, Option, length, refl, ap, sym, subst, arith}
use Rattle.dac_weave.specs.laws.Common.{slice_get_read, At, IsLeft}
use Rattle.dac_weave.proofs.Least.{SoFar, found, skipped, first_of}
use Rattle.dac_weave.proofs.Placed.{left_only}
use Rattle.dac_weave.proofs.merge.Merge.least_left.Goals as goal
use Rattle.dac_weave.proofs.merge.Merge.least_left.Goals.{then-index-records, else-index-records}

pub loop-i-preserved : goal.loop-i-preserved
loop-i-preserved c =
    let js = c.args.journals.now in
    let ss = c.args.self.now.cursors.items in
    let i = c.loop-i.i in
    let j = c.index-journals-i.result in
    let s = c.index.result.now in
    let at : At js i j = slice_get_read js (length js) i j refl c.loop-i-test.true c.index-journals-i.is in
    let inside : i < length ss = omega arith in
    let cursor_at : At ss i s = slice_get_read ss (length ss) i s refl inside c.index.ensures in
    elim c.if-index-records.branch [
      | then-index-records w ↦
          let lt : s.placed < length j.records = omega (arith, ap length c.records.ensures, w.if-index-records.true) in
          subst (λ (o : Option ℕ). SoFar js (IsLeft ss) (i + 1) o) (sym w.least-is) (found js (IsLeft ss) i c.loop-i.least w.lesser.result j at (s, (cursor_at, lt)) c.loop-i.invariant w.lesser.ensures)
      | else-index-records w ↦
          let not : s.placed < length j.records → ⊥ = λ lt. omega (arith, ap length c.records.ensures, w.if-index-records.false) in
          subst (λ (o : Option ℕ). SoFar js (IsLeft ss) (i + 1) o) (sym w.least-is) (skipped js (IsLeft ss) i c.loop-i.least c.loop-i.invariant (left_only js ss i j s at cursor_at not))
    ]

pub returns : goal.returns
returns c = first_of c.args.journals.now (IsLeft c.args.self.now.cursors.items) c.loop-i.i c.loop-i.least c.loop-i-test.false c.loop-i.invariant

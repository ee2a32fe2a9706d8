use Rattle.std.proofs.Common.{◌+◌, sym, ap, ◌∙◌, arith}
use Rattle.std.proofs.lemmas.Bool.{and_from, and_left, and_right}
use Rattle.dac_placement.specs.laws.Counting.{load_counts, load_passes}
use Rattle.dac_placement.proofs.loads.load_by.Goals as goal
use Rattle.dac_placement.proofs.loads.load_by.Goals.{then-ne+then-runs, else-ne, else-ne-via-then-ne+else-runs, else-ne-via-else-ne}

pub loop-number-preserved : goal.loop-number-preserved
loop-number-preserved g c =
    let runs = g.R.Runs.runs c.args.runners.now in
    record {
      count = elim c.if-ne.branch [
        | then-ne+then-runs w ↦ w.load-is ∙ ap (λ n. n + 1) c.loop-number.invariant.count ∙ sym (load_counts c.args.app c.args.node runs c.loop-number.number
            (and_from _ _ (sym c.ne.ensures ∙ w.if-ne.true) (sym c.runs-runs.ensures ∙ w.if-runs.true)))
        | else-ne w ↦ w.load-is ∙ c.loop-number.invariant.count ∙ sym (load_passes c.args.app c.args.node runs c.loop-number.number (elim w.else-ne.branch [
          | else-ne-via-then-ne+else-runs v ↦ and_right _ _ (sym c.runs-runs.ensures ∙ v.if-runs.false)
          | else-ne-via-else-ne v ↦ and_left _ _ (sym c.ne.ensures ∙ v.if-ne.false)
        ]))
      ];
      few = elim c.if-ne.branch [ then-ne+then-runs w ↦ omega arith | else-ne w ↦ omega arith ];
    }

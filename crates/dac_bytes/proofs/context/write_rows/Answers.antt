use Rattle.std.proofs.Common.{◌∙◌, arith}
use Rattle.dac_dots.specs.Rows.{rows_of}
use Rattle.dac_bytes.proofs.WrittenRows.{written_more}
use Rattle.dac_bytes.proofs.context.write_rows.Goals as goal
use Rattle.dac_bytes.proofs.context.write_rows.Goals.{in-Some+in_ok-writer, in_default}

pub loop-i-preserved : goal.loop-i-preserved
loop-i-preserved c = elim c.match-row.branch [
  | in-Some+in_ok-writer w ↦
      written_more c.args.version (rows_of c.args.context.now) c.loop-i.i (record { origin = w.in-Some.origin; upto = w.in-Some.upto; further = w.in-Some.further }) c.args.writer c.loop-i.writer c.match-row.writer (rw w.in-Some.is at c.row.ensures.value) c.loop-i.invariant
      (w.writer-is ∙ w.in_ok-writer.ensures)
  | in_default w ↦ absurd (let past = rw w.in_default.is at c.row.ensures.value in let all = c.requires in let lt = c.loop-i-test.true in omega arith)
]

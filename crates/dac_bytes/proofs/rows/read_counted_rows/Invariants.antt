use Rattle.std.proofs.Common.{◌≡◌, ◌-◌, Some, None}
use Rattle.dac_dots.specs.Rows.{Row, rows_of}
use Rattle.dac_bytes.specs.Reading.{items_at, row_at}
use Rattle.dac_bytes.specs.Items.{with_front}
use Rattle.dac_bytes.proofs.ReadRows.{IsLast}
use Rattle.dac_bytes.proofs.rows.read_counted_rows.Given as goal

abbrev pub invariant-loop : goal.invariant-loop
invariant-loop l = record {
  so_far : with_front (rows_of l.context) (items_at (row_at l.version l.nodes) (λ (row : Row). Some row.origin) (l.count - l.counter) l.before l.rest) ≡ items_at (row_at l.version l.nodes) (λ (row : Row). Some row.origin) l.count None l.fn.reader;
  last : IsLast l.before (rows_of l.context);
}

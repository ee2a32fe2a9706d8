use Rattle.std.proofs.Common.{◌≡◌, ◌++◌, ◌∷◌, [], ◌∙◌, Some, None, ap, sym, subst}
use Rattle.std.proofs.lemmas.Result.{err_from_is_err_and}
use Rattle.dac_dots.specs.Rows.{Row, rows_of}
use Rattle.dac_bytes.specs.Reading.{row_at, items_at}
use Rattle.dac_bytes.specs.laws.Items.{ends, goes_on, is_done}
use Rattle.dac_bytes.proofs.ReadRows.{IsLast, row_comes, can_follow, last_more, no_rows, starts, pushed}
use Rattle.dac_bytes.proofs.rows.read_counted_rows.Goals as goal

pub returns-in_err-row : goal.returns-in_err-row
returns-in_err-row c =
    let p = err_from_is_err_and c.from_residual.result c.from_residual.ensures.1 in
    rw (p.1, p.2) (ends (row_at c.args.version c.args.nodes) (λ (row : Row). Some row.origin) c.in_err-row.field-0.0 (rows_of c.loop.context) c.args.count c.loop.counter c.loop.before c.loop.rest (items_at (row_at c.args.version c.args.nodes) (λ (row : Row). Some row.origin) c.args.count None c.args.reader) c.loop-test.true c.in_err-row.ensures c.loop.invariant.so_far)

pub loop-init : goal.loop-init
loop-init c = record { so_far = starts c.args.version c.args.nodes c.args.count c.args.reader _ c.empty-context.ensures; last = ap rows_of c.empty-context.ensures ∙ no_rows }

pub loop-preserved : goal.loop-preserved
loop-preserved c =
    let row : Row = record { origin = c.in_ok-row.row.origin; upto = c.in_ok-row.row.upto; further = c.in_ok-row.row.further.items } in
    let can = row_comes c.args.version c.args.nodes c.loop.before c.loop.rest (row, c.in_ok-row.after) c.in_ok-row.ensures in
    let more : rows_of c.push_row.new.self ≡ rows_of c.loop.context ++ row ∷ [] = pushed c.loop.before c.loop.context c.push_row.new.self row c.in_ok-_pushed._pushed c.loop.invariant.last can (rw c.deref.ensures.value at c.in_ok-_pushed.ensures.answer) (rw c.deref.ensures.value at c.in_ok-_pushed.ensures.ok) in
    record {
      so_far = rw more (goes_on (row_at c.args.version c.args.nodes) (λ (row : Row). Some row.origin) (rows_of c.loop.context) c.args.count c.loop.counter c.loop.before c.loop.rest row c.in_ok-row.after (items_at (row_at c.args.version c.args.nodes) (λ (row : Row). Some row.origin) c.args.count None c.args.reader) c.loop-test.true c.in_ok-row.ensures c.loop.invariant.so_far);
      last = subst (IsLast (Some row.origin)) (sym more) (last_more (rows_of c.loop.context) row (can_follow c.loop.before (rows_of c.loop.context) row c.loop.invariant.last can));
    }

pub returns : goal.returns
returns c = is_done (row_at c.args.version c.args.nodes) (λ (row : Row). Some row.origin) (rows_of c.loop.context) c.args.count c.loop.counter c.loop.before c.loop.rest (items_at (row_at c.args.version c.args.nodes) (λ (row : Row). Some row.origin) c.args.count None c.args.reader) c.loop-test.false c.loop.invariant.so_far

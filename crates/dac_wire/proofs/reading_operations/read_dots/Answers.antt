use Rattle.std.proofs.Common.{Some, None, sym}
use Rattle.dac_wire.specs.laws.Common.{Dot, dot_above_at, items_at}
use Rattle.std.proofs.lemmas.Result.{err_from_is_err_and}
use Rattle.dac_bytes.specs.laws.Items.{Fails-from, ends, goes_on, is_done}
use Rattle.dac_wire.proofs.reading_operations.read_dots.Goals as goal

pub returns-in_err-dot : goal.returns-in_err-dot
returns-in_err-dot c =
    let p = err_from_is_err_and c.from_residual.result c.from_residual.ensures.1 in
    let e = c.in_err-dot.field-0.0 in
    let step = Fails-from e.kind e (dot_above_at c.args.version c.args.nodes c.loop.before c.loop.rest) c.in_err-dot.ensures.real (sym c.in_err-dot.ensures.exact) in
    rw (p.1, p.2) (ends (dot_above_at c.args.version c.args.nodes) (λ (d : Dot). Some d) e c.loop.dots.items c.args.count c.loop.counter c.loop.before c.loop.rest (items_at (dot_above_at c.args.version c.args.nodes) (λ (d : Dot). Some d) c.args.count None c.args.reader) c.loop-test.true step c.loop.invariant)

pub loop-preserved : goal.loop-preserved
loop-preserved c = rw c.in_ok-push.ensures.items (goes_on (dot_above_at c.args.version c.args.nodes) (λ (d : Dot). Some d) c.loop.dots.items c.args.count c.loop.counter c.loop.before c.loop.rest c.in_ok-dot.dot c.in_ok-dot.after (items_at (dot_above_at c.args.version c.args.nodes) (λ (d : Dot). Some d) c.args.count None c.args.reader) c.loop-test.true (sym c.in_ok-dot.ensures.exact) c.loop.invariant)

pub returns : goal.returns
returns c = is_done (dot_above_at c.args.version c.args.nodes) (λ (d : Dot). Some d) c.loop.dots.items c.args.count c.loop.counter c.loop.before c.loop.rest (items_at (dot_above_at c.args.version c.args.nodes) (λ (d : Dot). Some d) c.args.count None c.args.reader) c.loop-test.false c.loop.invariant

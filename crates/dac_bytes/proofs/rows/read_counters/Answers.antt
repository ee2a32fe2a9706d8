use Rattle.std.proofs.Common.{sym}
use Rattle.std.proofs.lemmas.Result.{err_from_is_err_and}
use Rattle.dac_bytes.specs.Reading.{further_at, items_at}
use Rattle.dac_bytes.specs.laws.Items.{Fails-from, ends, goes_on, is_done}
use Rattle.dac_bytes.proofs.rows.read_counters.Goals as goal

pub returns-in_err-n : goal.returns-in_err-n
returns-in_err-n c =
    let p = err_from_is_err_and c.from_residual.result c.from_residual.ensures.1 in
    let e = c.in_err-n.field-0.0 in
    let step = Fails-from e.kind e (further_at c.loop.before c.loop.rest) c.in_err-n.ensures.real (sym c.in_err-n.ensures.exact) in
    rw (p.1, p.2) (ends further_at (λ n. n) e c.loop.counters.items c.args.count c.loop.counter c.loop.before c.loop.rest (items_at further_at (λ n. n) c.args.count c.args.before c.args.reader) c.loop-test.true step c.loop.invariant)

pub loop-preserved : goal.loop-preserved
loop-preserved c = rw c.in_ok-push.ensures.items (goes_on further_at (λ n. n) c.loop.counters.items c.args.count c.loop.counter c.loop.before c.loop.rest c.in_ok-n.n c.in_ok-n.after (items_at further_at (λ n. n) c.args.count c.args.before c.args.reader) c.loop-test.true (sym c.in_ok-n.ensures.exact) c.loop.invariant)

pub returns : goal.returns
returns c = is_done further_at (λ n. n) c.loop.counters.items c.args.count c.loop.counter c.loop.before c.loop.rest (items_at further_at (λ n. n) c.args.count c.args.before c.args.reader) c.loop-test.false c.loop.invariant

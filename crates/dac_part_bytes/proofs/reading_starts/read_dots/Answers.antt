use Rattle.std.proofs.Common.{Some, None, [], ◌∷◌, ◌++◌, ◌≡◌, sym, ap, ◌∙◌, arith}
use Rattle.dac_part_bytes.proofs.Common.{err_from_is_err_and, Dot, dot_cmp, dots_total, in_order, items_at, ends, goes_on, is_done, Fails-from, known_dot_at, reaches_more}
use Rattle.std.specs.FinSet as set
use Rattle.dac_part_bytes.proofs.ReadFacts.{known_dot_next}
use Rattle.dac_part_bytes.proofs.ReadLoops.{starts_with, pushed_is, dots_pushed}
use Rattle.dac_part_bytes.proofs.InOrder.{no_dots}
use Rattle.dac_part_bytes.proofs.reading_starts.read_dots.Goals as goal

pub loop-init : goal.loop-init
loop-init c = starts_with dot_cmp (λ (x : Dot). x) (known_dot_at c.args.version c.args.nodes c.args.known.now) (λ (x : Dot). Some x) (in_order c.empty-dots.result) _ _ c.args.reader (ap in_order c.empty-dots.ensures ∙ sym no_dots) (omega arith)

pub returns-in_err-dot : goal.returns-in_err-dot
returns-in_err-dot c =
    let p = err_from_is_err_and c.from_residual.result c.from_residual.ensures.1 in
    let e = c.in_err-dot.field-0.0 in
    rw (p.1, p.2) (ends (known_dot_at c.args.version c.args.nodes c.args.known.now) (λ (x : Dot). Some x) e (in_order c.loop.dots) c.args.count c.loop.counter c.loop.before c.loop.rest (items_at (known_dot_at c.args.version c.args.nodes c.args.known.now) (λ (x : Dot). Some x) c.args.count None c.args.reader) c.loop-test.true (Fails-from e.kind e (known_dot_at c.args.version c.args.nodes c.args.known.now c.loop.before c.loop.rest) c.in_err-dot.ensures.real (sym c.in_err-dot.ensures.exact)) c.loop.invariant.0)

pub loop-preserved : goal.loop-preserved
loop-preserved c =
    let x = c.in_ok-dot.dot in
    let next = known_dot_next c.args.version c.args.nodes c.args.known.now c.loop.before c.loop.rest (x, c.in_ok-dot.after) (sym c.in_ok-dot.ensures.exact) in
    let above = next.1 in
    let reached = sym (c.loop.invariant.1 x) ∙ above in
    let new : (in_order c.push.new.self) ≡ (in_order c.loop.dots) ++ x ∷ [] = ap in_order (pushed_is c.in_ok-push.field-0 _ c.push.new.self (set.insert c.loop.dots x) c.loop.dots c.in_ok-push.ensures.ok reached c.in_ok-push.ensures.new) ∙ dots_pushed c.loop.dots x reached in
    rw new (
      goes_on (known_dot_at c.args.version c.args.nodes c.args.known.now) (λ (x : Dot). Some x) (in_order c.loop.dots) c.args.count c.loop.counter c.loop.before c.loop.rest x c.in_ok-dot.after (items_at (known_dot_at c.args.version c.args.nodes c.args.known.now) (λ (x : Dot). Some x) c.args.count None c.args.reader) c.loop-test.true (sym c.in_ok-dot.ensures.exact) c.loop.invariant.0,
      reaches_more dots_total (λ (x : Dot). x) c.loop.before (in_order c.loop.dots) x c.loop.invariant.1 above,
    )

pub returns : goal.returns
returns c = is_done (known_dot_at c.args.version c.args.nodes c.args.known.now) (λ (x : Dot). Some x) (in_order c.loop.dots) c.args.count c.loop.counter c.loop.before c.loop.rest (items_at (known_dot_at c.args.version c.args.nodes c.args.known.now) (λ (x : Dot). Some x) c.args.count None c.args.reader) c.loop-test.false c.loop.invariant.0

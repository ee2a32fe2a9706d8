use Rattle.std.proofs.Common.{Some, None, [], ◌∷◌, ◌++◌, ◌≡◌, sym, ap, ◌∙◌}
use Rattle.dac_part_bytes.proofs.Common.{err_from_is_err_and, and_from, not, Key, keys_total, DotFlags, items_at, ends, goes_on, is_done, reaches_more}
use Rattle.dac_part_bytes.proofs.ReadFacts.{permit_item, permits_next}
use Rattle.dac_part_bytes.proofs.ReadLoops.{pushed_is}
use Rattle.dac_part_bytes.proofs.reading_votes.read_keys_of_permits.Goals as goal

pub returns-in_err-entry : goal.returns-in_err-entry
returns-in_err-entry c =
    let p = err_from_is_err_and c.from_residual.result c.from_residual.ensures.1 in
    let e = c.in_err-entry.field-0.0 in
    rw (p.1, p.2) (ends (permit_item c.args.version c.args.config.now c.args.known.now) (λ (x : Key × DotFlags). Some x.0) e c.loop.store c.args.count c.loop.counter c.loop.before c.loop.rest (items_at (permit_item c.args.version c.args.config.now c.args.known.now) (λ (x : Key × DotFlags). Some x.0) c.args.count None c.args.reader) c.loop-test.true c.in_err-entry.ensures c.loop.invariant.0)

pub loop-preserved : goal.loop-preserved
loop-preserved c =
    let x = c.in_ok-entry.entry in
    let next = permits_next c.args.version c.args.config.now c.args.known.now c.loop.before c.loop.rest (x, c.in_ok-entry.after) c.in_ok-entry.ensures in
    let above = next.1 in
    let reached = sym (c.loop.invariant.1 x.0) ∙ above in
    let new : c.push.new.self ≡ c.loop.store ++ x ∷ [] = pushed_is c.in_ok-push.field-0 _ c.push.new.self (c.loop.store ++ x ∷ []) c.loop.store c.in_ok-push.ensures.ok (and_from _ _ reached (ap not next.0.1)) c.in_ok-push.ensures.new in
    rw new (
      goes_on (permit_item c.args.version c.args.config.now c.args.known.now) (λ (x : Key × DotFlags). Some x.0) c.loop.store c.args.count c.loop.counter c.loop.before c.loop.rest x c.in_ok-entry.after (items_at (permit_item c.args.version c.args.config.now c.args.known.now) (λ (x : Key × DotFlags). Some x.0) c.args.count None c.args.reader) c.loop-test.true c.in_ok-entry.ensures c.loop.invariant.0,
      reaches_more keys_total (λ (x : Key × DotFlags). x.0) c.loop.before c.loop.store x c.loop.invariant.1 above,
    )

pub returns : goal.returns
returns c = is_done (permit_item c.args.version c.args.config.now c.args.known.now) (λ (x : Key × DotFlags). Some x.0) c.loop.store c.args.count c.loop.counter c.loop.before c.loop.rest (items_at (permit_item c.args.version c.args.config.now c.args.known.now) (λ (x : Key × DotFlags). Some x.0) c.args.count None c.args.reader) c.loop-test.false c.loop.invariant.0

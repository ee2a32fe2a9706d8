use Rattle.std.proofs.Common.{Some, None, [], ◌∷◌, ◌++◌, ◌≡◌, sym, ap, ◌∙◌, arith}
use Rattle.dac_part_bytes.proofs.Common.{err_from_is_err_and, greater, AppId, app_cmp, apps_total, exact_apps, Claim, items_at, ends, goes_on, is_done, Fails-from, claim_at, reaches_more}
use Rattle.std.specs.FinMap as map
use Rattle.dac_chains.specs.Claims.{claim_cmp}
use Rattle.dac_part_bytes.proofs.ReadFacts.{claim_next}
use Rattle.dac_part_bytes.proofs.ReadLoops.{starts_with, no_entries, entries_joined}
use Rattle.dac_part_bytes.proofs.reading_chains.read_counted_claims.Goals as goal

pub loop-init : goal.loop-init
loop-init c = starts_with app_cmp (λ (x : AppId × Claim). x.0) (claim_at c.args.version c.args.config.now) (λ (x : AppId × Claim). Some x.0) (map.entries c.bottom-claims.result) _ _ c.args.reader (ap (λ m. map.entries m) c.bottom-claims.ensures ∙ no_entries apps_total exact_apps) (omega arith)

pub returns-in_err-entry : goal.returns-in_err-entry
returns-in_err-entry c =
    let p = err_from_is_err_and c.from_residual.result c.from_residual.ensures.1 in
    let e = c.in_err-entry.field-0.0 in
    rw (p.1, p.2) (ends (claim_at c.args.version c.args.config.now) (λ (x : AppId × Claim). Some x.0) e (map.entries c.loop.claims) c.args.count c.loop.counter c.loop.before c.loop.rest (items_at (claim_at c.args.version c.args.config.now) (λ (x : AppId × Claim). Some x.0) c.args.count None c.args.reader) c.loop-test.true (Fails-from e.kind e (claim_at c.args.version c.args.config.now c.loop.before c.loop.rest) c.in_err-entry.ensures.real (sym c.in_err-entry.ensures.exact)) c.loop.invariant.0)

pub loop-preserved : goal.loop-preserved
loop-preserved c =
    let x = c.in_ok-entry.entry in
    let next = claim_next c.args.version c.args.config.now c.loop.before c.loop.rest (x, c.in_ok-entry.after) (sym c.in_ok-entry.ensures.exact) in
    let above = next in
    let reached = sym (c.loop.invariant.1 x.0) ∙ above in
    let new : (map.entries c.in_ok-claims.claims) ≡ (map.entries c.loop.claims) ++ x ∷ [] = ap (λ m. map.entries m) (c.in_ok-claims.ensures ∙ ap (greater claim_cmp c.loop.claims) c.in_ok-one.ensures) ∙ entries_joined apps_total exact_apps claim_cmp c.loop.claims x.0 x.1 reached in
    rw new (
      goes_on (claim_at c.args.version c.args.config.now) (λ (x : AppId × Claim). Some x.0) (map.entries c.loop.claims) c.args.count c.loop.counter c.loop.before c.loop.rest x c.in_ok-entry.after (items_at (claim_at c.args.version c.args.config.now) (λ (x : AppId × Claim). Some x.0) c.args.count None c.args.reader) c.loop-test.true (sym c.in_ok-entry.ensures.exact) c.loop.invariant.0,
      reaches_more apps_total (λ (x : AppId × Claim). x.0) c.loop.before (map.entries c.loop.claims) x c.loop.invariant.1 above,
    )

pub returns : goal.returns
returns c = is_done (claim_at c.args.version c.args.config.now) (λ (x : AppId × Claim). Some x.0) (map.entries c.loop.claims) c.args.count c.loop.counter c.loop.before c.loop.rest (items_at (claim_at c.args.version c.args.config.now) (λ (x : AppId × Claim). Some x.0) c.args.count None c.args.reader) c.loop-test.false c.loop.invariant.0

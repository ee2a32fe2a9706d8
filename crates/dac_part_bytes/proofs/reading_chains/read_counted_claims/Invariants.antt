use Rattle.std.proofs.Common.{◌≡◌, ◌-◌, Some, None}
use Rattle.dac_part_bytes.proofs.Common.{items_at, with_front, AppId, app_cmp, Claim, claim_at, Reaches}
use Rattle.std.specs.FinMap as map
use Rattle.dac_part_bytes.proofs.reading_chains.read_counted_claims.Given as goal

-- the items read so far with those of the rest make the whole, and the previous key is the greatest so far
abbrev pub invariant-loop : goal.invariant-loop
invariant-loop l =
    (with_front (map.entries l.claims) (items_at (claim_at l.version l.config) (λ (e : AppId × Claim). Some e.0) (l.count - l.counter) l.before l.rest) ≡ items_at (claim_at l.version l.config) (λ (e : AppId × Claim). Some e.0) l.count None l.fn.reader)
    × Reaches app_cmp (λ (e : AppId × Claim). e.0) l.before (map.entries l.claims)

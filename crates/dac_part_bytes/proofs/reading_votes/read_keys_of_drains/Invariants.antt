use Rattle.std.proofs.Common.{◌≡◌, ◌-◌, Some, None}
use Rattle.dac_part_bytes.proofs.Common.{items_at, with_front, Origin, DotFlags, Reaches}
use Rattle.dac_origins.specs.Dots.{origin_cmp}
use Rattle.dac_part_bytes.proofs.ReadFacts.{drain_item}
use Rattle.dac_part_bytes.proofs.reading_votes.read_keys_of_drains.Given as goal

-- the items read so far with those of the rest make the whole, and the previous key is the greatest so far
abbrev pub invariant-loop : goal.invariant-loop
invariant-loop l =
    (with_front l.store (items_at (drain_item l.config l.known) (λ (e : Origin × DotFlags). Some e.0) (l.count - l.counter) l.before l.rest) ≡ items_at (drain_item l.config l.known) (λ (e : Origin × DotFlags). Some e.0) l.count None l.fn.reader)
    × Reaches origin_cmp (λ (e : Origin × DotFlags). e.0) l.before l.store

use Rattle.std.proofs.Common.{◌≡◌, ◌-◌, Some, None}
use Rattle.dac_part_bytes.proofs.Common.{items_at, with_front, Key, key_cmp, DotFlags, Reaches}
use Rattle.dac_part_bytes.proofs.ReadFacts.{permit_item}
use Rattle.dac_part_bytes.proofs.reading_votes.read_keys_of_permits.Given as goal

-- the items read so far with those of the rest make the whole, and the previous key is the greatest so far
abbrev pub invariant-loop : goal.invariant-loop
invariant-loop l =
    (with_front l.store (items_at (permit_item l.version l.config l.known) (λ (e : Key × DotFlags). Some e.0) (l.count - l.counter) l.before l.rest) ≡ items_at (permit_item l.version l.config l.known) (λ (e : Key × DotFlags). Some e.0) l.count None l.fn.reader)
    × Reaches key_cmp (λ (e : Key × DotFlags). e.0) l.before l.store

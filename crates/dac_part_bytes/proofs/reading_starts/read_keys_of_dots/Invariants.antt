use Rattle.std.proofs.Common.{◌≡◌, ◌-◌, Some, None}
use Rattle.dac_part_bytes.proofs.Common.{items_at, with_front, Key, Dots, key_cmp, keyed_dots_at, Reaches}
use Rattle.dac_part_bytes.proofs.reading_starts.read_keys_of_dots.Given as goal

-- the items read so far with those of the rest make the whole, and the previous key is the greatest so far
abbrev pub invariant-loop : goal.invariant-loop
invariant-loop l =
    (with_front l.store (items_at (keyed_dots_at l.version l.config l.known) (λ (e : Key × Dots). Some e.0) (l.count - l.counter) l.before l.rest) ≡ items_at (keyed_dots_at l.version l.config l.known) (λ (e : Key × Dots). Some e.0) l.count None l.fn.reader)
    × Reaches key_cmp (λ (e : Key × Dots). e.0) l.before l.store

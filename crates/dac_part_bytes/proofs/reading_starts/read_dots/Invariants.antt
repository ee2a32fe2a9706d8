use Rattle.std.proofs.Common.{◌≡◌, ◌-◌, Some, None}
use Rattle.dac_part_bytes.proofs.Common.{items_at, with_front, Dot, dot_cmp, in_order, known_dot_at, Reaches}
use Rattle.dac_part_bytes.proofs.reading_starts.read_dots.Given as goal

-- the items read so far with those of the rest make the whole, and the previous dot is the greatest so far
abbrev pub invariant-loop : goal.invariant-loop
invariant-loop l =
    (with_front (in_order l.dots) (items_at (known_dot_at l.version l.nodes l.known) (λ (d : Dot). Some d) (l.count - l.counter) l.before l.rest) ≡ items_at (known_dot_at l.version l.nodes l.known) (λ (d : Dot). Some d) l.count None l.fn.reader)
    × Reaches dot_cmp (λ (d : Dot). d) l.before (in_order l.dots)

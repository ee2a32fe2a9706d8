use Rattle.std.proofs.Common.{◌≡◌, ◌-◌, Some, None}
use Rattle.dac_wire.specs.laws.Common.{items_at, dot_above_at, Dot}
use Rattle.dac_bytes.specs.Items.{with_front}
use Rattle.dac_wire.proofs.reading_operations.read_dots.Given as goal

-- the dots read so far with those of the rest make the whole
abbrev pub invariant-loop : goal.invariant-loop
invariant-loop l = with_front l.dots.items (items_at (dot_above_at l.version l.nodes) (λ (d : Dot). Some d) (l.count - l.counter) l.before l.rest) ≡ items_at (dot_above_at l.version l.nodes) (λ (d : Dot). Some d) l.count None l.fn.reader

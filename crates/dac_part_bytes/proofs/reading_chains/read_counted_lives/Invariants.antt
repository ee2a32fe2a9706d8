use Rattle.std.proofs.Common.{◌≡◌, ◌-◌, Some, None}
use Rattle.dac_part_bytes.proofs.Common.{items_at, with_front, NodeId, node_cmp, Life, life_at, Reaches}
use Rattle.std.specs.FinMap as map
use Rattle.dac_part_bytes.proofs.reading_chains.read_counted_lives.Given as goal

-- the items read so far with those of the rest make the whole, and the previous key is the greatest so far
abbrev pub invariant-loop : goal.invariant-loop
invariant-loop l =
    (with_front (map.entries l.lives) (items_at (life_at l.version l.nodes) (λ (e : NodeId × Life). Some e.0) (l.count - l.counter) l.before l.rest) ≡ items_at (life_at l.version l.nodes) (λ (e : NodeId × Life). Some e.0) l.count None l.fn.reader)
    × Reaches node_cmp (λ (e : NodeId × Life). e.0) l.before (map.entries l.lives)

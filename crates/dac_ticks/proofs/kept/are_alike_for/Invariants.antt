use Rattle.std.proofs.Common.{◌≡◌, ℕ, ◌<◌}
use Rattle.dac_config.specs.Table.{group_of}
use Rattle.dac_ticks.proofs.Alike.{numbered_node}
use Rattle.dac_ticks.proofs.kept.are_alike_for.Given as goal

abbrev pub invariant-loop-number : goal.invariant-loop-number
invariant-loop-number l = (k : ℕ) → k < l.number → group_of l.one l.app (numbered_node k) ≡ group_of l.other l.app (numbered_node k)

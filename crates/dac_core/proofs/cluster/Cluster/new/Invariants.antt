use Rattle.std.proofs.Common.{◌≡◌, ℕ, cond, Some, None, length}
use Rattle.dac_core.proofs.Common.{slice_get}
use Rattle.std.specs.Prelude.{nat_lt}
use Rattle.dac_settle.specs.dac_model_world.NodeValue.{off}
use Rattle.dac_core.proofs.cluster.Cluster.new.Given as goal

abbrev pub invariant-loop-node : goal.invariant-loop-node
invariant-loop-node l = (length l.nodes.items ≡ l._node) × ((n : ℕ) → slice_get l.nodes.items n ≡ cond (nat_lt n l._node) (Some (off 0)) None)

use Rattle.std.proofs.Common.{◌≡◌}
use Rattle.dac_play.proofs.Common.{state_at, having_state}
use Rattle.dac_play.proofs.sharing.running.Given as goal

abbrev pub invariant-loop-number : goal.invariant-loop-number
invariant-loop-number l = l.nodes.items ≡ having_state (state_at l.world) l.number

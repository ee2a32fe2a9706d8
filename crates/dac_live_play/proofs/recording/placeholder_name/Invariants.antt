use Rattle.std.proofs.Common.{◌≡◌, ℕ, ◌<◌}
use Rattle.dac_live_play.proofs.Common.{unknown_name, IsUnused}
use Rattle.dac_live_play.proofs.recording.placeholder_name.Given as goal

abbrev pub invariant-loop-underscores : goal.invariant-loop-underscores
invariant-loop-underscores l = record {
  name : l.name.items ≡ unknown_name l._underscores;
  first : (fewer : ℕ) → fewer < l._underscores → IsUnused l.config (unknown_name fewer) → ⊥;
}

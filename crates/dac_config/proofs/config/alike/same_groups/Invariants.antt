use Rattle.std.proofs.Common.{◌≡◌, ℕ, ◌<◌, List, length, get_or}
use Rattle.dac_config.proofs.Alike.{nodes_of}
use Rattle.dac_config.proofs.config.alike.same_groups.Given as goal

abbrev pub invariant-loop-place : goal.invariant-loop-place
invariant-loop-place l = (length l.one ≡ length l.two) × ((k : ℕ) → k < l.place → (d : List ℕ) → get_or (nodes_of l.one) k d ≡ get_or (nodes_of l.two) k d)

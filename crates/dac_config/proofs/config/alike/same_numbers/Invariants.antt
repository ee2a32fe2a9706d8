use Rattle.std.proofs.Common.{◌≡◌, ℕ, ◌<◌, length, get_or}
use Rattle.dac_config.proofs.config.alike.same_numbers.Given as goal

abbrev pub invariant-loop-place : goal.invariant-loop-place
invariant-loop-place l = (length l.one ≡ length l.two) × ((k d : ℕ) → k < l.place → get_or l.one k d ≡ get_or l.two k d)

use Rattle.std.proofs.Common.{◌≡◌, ◌≤◌, ◌<◌, ◌||◌, ℕ, true}
use Rattle.std.specs.FinSet as set
use Rattle.dac_origins.specs.Dots.{dot}
use Rattle.dac_dots.proofs.counters.span_within_both.Given as goal

-- the counters below this one are in either context
abbrev pub invariant-loop-n : goal.invariant-loop-n
invariant-loop-n l = (m : ℕ) → l.span.first ≤ m → m < l.n → (set.contains l.first (dot l.origin m) || set.contains l.second (dot l.origin m)) ≡ true

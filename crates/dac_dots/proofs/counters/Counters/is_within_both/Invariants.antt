use Rattle.std.proofs.Common.{◌≡◌, ◌||◌, ℕ, take, true}
use Rattle.std.specs.FinSet as set
use Rattle.dac_origins.specs.Dots.{dot}
use Rattle.dac_dots.specs.Spans.{any_span}
use Rattle.dac_dots.proofs.counters.Counters.is_within_both.Given as goal

-- the counters of the spans so far are in either context
abbrev pub invariant-loop-span : goal.invariant-loop-span
invariant-loop-span l = (n : ℕ) → any_span (take l.span-index l.span-items) n ≡ true → (set.contains l.first (dot l.origin n) || set.contains l.second (dot l.origin n)) ≡ true

use Rattle.std.proofs.Common.{◌≡◌, ℕ, take, true}
use Rattle.std.specs.Ordering.{nat_cmp}
use Rattle.dac_origins.specs.Keys.{has_key}
use Rattle.dac_dots.specs.Spans.{any_span}
use Rattle.dac_dots.proofs.counters.Counters.is_subset.Given as goal

-- the other set contains the spans so far
abbrev pub invariant-loop-span : goal.invariant-loop-span
invariant-loop-span l = (n : ℕ) → any_span (take l.span-index l.span-items) n ≡ true → has_key nat_cmp l.other n ≡ true

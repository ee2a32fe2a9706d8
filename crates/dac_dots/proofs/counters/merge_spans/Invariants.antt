use Rattle.std.proofs.Common.{◌≡◌, ◌≤◌, ◌+◌, ◌-◌, ◌||◌, ℕ, length, take}
use Rattle.std.specs.Ordering.{nat_cmp}
use Rattle.dac_origins.specs.Keys.{IsRising, has_key}
use Rattle.dac_dots.specs.Spans.{any_span}
use Rattle.dac_dots.proofs.counters.merge_spans.Given as goal

-- the result has the counters of both lists' spans so far
abbrev pub invariant-both : goal.invariant-both
invariant-both l = record {
  rising : IsRising nat_cmp l.both;
  so_far : (n : ℕ) → has_key nat_cmp l.both n ≡ (any_span (take l.j l.ys) n || any_span (take l.i l.xs) n);
  first : l.i ≤ length l.xs;
  second : l.j ≤ length l.ys;
}

abbrev pub decreases-both : goal.decreases-both
decreases-both l = (length l.xs - l.i) + (length l.ys - l.j)

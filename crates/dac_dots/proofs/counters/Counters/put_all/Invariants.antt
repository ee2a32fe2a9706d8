use Rattle.std.proofs.Common.{◌≡◌, ◌||◌, ℕ, take}
use Rattle.std.specs.Ordering.{nat_cmp}
use Rattle.dac_origins.specs.Keys.{IsRising, has_key}
use Rattle.dac_dots.specs.Spans.{any_span}
use Rattle.dac_dots.proofs.counters.Counters.put_all.Given as goal

-- the counters of the spans so far are inserted
abbrev pub invariant-loop-span : goal.invariant-loop-span
invariant-loop-span l = record {
  rising : IsRising nat_cmp l.fn.self → IsRising nat_cmp l.self;
  so_far : (n : ℕ) → has_key nat_cmp l.self n ≡ (any_span (take l.span-index l.spans) n || has_key nat_cmp l.fn.self n);
}

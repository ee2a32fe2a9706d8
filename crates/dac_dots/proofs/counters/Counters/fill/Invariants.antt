use Rattle.std.proofs.Common.{◌≡◌, ℕ, true, take}
use Rattle.dac_origins.specs.Dots.{dot}
use Rattle.dac_origins.specs.declared.dot.Dot.{Dot}
use Rattle.dac_dots.specs.DotFilters.{may_have}
use Rattle.dac_dots.specs.Spans.{any_span}
use Rattle.dac_dots.proofs.counters.Counters.fill.Given as goal

-- the dots of the spans so far are in the filter
abbrev pub invariant-loop-span : goal.invariant-loop-span
invariant-loop-span l = record {
  own : (n : ℕ) → any_span (take l.span-index l.span-items) n ≡ true → may_have l.filter.slots (dot l.origin n) ≡ true;
  more : (q : Dot) → may_have l.fn.filter.slots q ≡ true → may_have l.filter.slots q ≡ true;
}

use Rattle.std.proofs.Common.{◌≡◌, ◌≤◌, ◌<◌, ℕ, true}
use Rattle.dac_origins.specs.Dots.{dot}
use Rattle.dac_origins.specs.declared.dot.Dot.{Dot}
use Rattle.dac_dots.specs.DotFilters.{may_have}
use Rattle.dac_dots.proofs.counters.fill_span.Given as goal

-- the dots whose counters are below this one are in the filter
abbrev pub invariant-loop-n : goal.invariant-loop-n
invariant-loop-n l = record {
  own : (m : ℕ) → l.span.first ≤ m → m < l.n → may_have l.filter.slots (dot l.origin m) ≡ true;
  more : (q : Dot) → may_have l.fn.filter.slots q ≡ true → may_have l.filter.slots q ≡ true;
}

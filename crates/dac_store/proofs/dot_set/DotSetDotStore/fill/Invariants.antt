use Rattle.std.proofs.Common.{◌≡◌, true, take}
use Rattle.std.specs.List.{All}
use Rattle.dac_origins.specs.declared.dot.Dot.{Dot}
use Rattle.dac_dots.specs.DotFilters.{may_have}
use Rattle.dac_store.proofs.dot_set.DotSetDotStore.fill.Given as goal

abbrev pub invariant-loop-dot : goal.invariant-loop-dot
invariant-loop-dot l = record {
  own : All (λ x. may_have l.filter.slots x ≡ true) (take l.dot-index l.dot-items);
  more : (x : Dot) → may_have l.fn.filter.slots x ≡ true → may_have l.filter.slots x ≡ true;
}

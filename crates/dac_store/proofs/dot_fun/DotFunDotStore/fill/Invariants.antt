use Rattle.std.proofs.Common.{◌≡◌, true, take, is_some}
use Rattle.dac_origins.specs.declared.dot.Dot.{Dot}
use Rattle.dac_dots.specs.DotFilters.{may_have}
use Rattle.dac_lattice.specs.Search.{AtEachEntry}
use Rattle.dac_store.proofs.dot_fun.DotFunDotStore.fill.Given as goal

abbrev pub invariant-loop-dot : goal.invariant-loop-dot
invariant-loop-dot g l = record {
  own : AtEachEntry (λ x v. is_some v ≡ true → may_have l.filter.slots x ≡ true) (take l.dot-index l.dot-items);
  more : (x : Dot) → may_have l.fn.filter.slots x ≡ true → may_have l.filter.slots x ≡ true;
}

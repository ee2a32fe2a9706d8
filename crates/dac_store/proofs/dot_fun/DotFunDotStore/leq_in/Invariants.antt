use Rattle.std.proofs.Common.{◌≡◌, true, take}
use Rattle.std.specs.FinSet as set
use Rattle.std.specs.FinMap.{find}
use Rattle.dac_origins.specs.Dots.{dot_cmp}
use Rattle.dac_lattice.specs.Search.{AtEachEntry}
use Rattle.dac_store.specs.AtDot.{StandsBelow}
use Rattle.dac_store.proofs.dot_fun.DotFunDotStore.leq_in.Given as goal

abbrev pub invariant-loop-dot : goal.invariant-loop-dot
invariant-loop-dot g l = AtEachEntry (λ x v. set.contains l.heard x ≡ true → StandsBelow g.V.Lattice.below (find dot_cmp x l.self) v) (take l.dot-index l.dot-items)

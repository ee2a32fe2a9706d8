use Rattle.std.proofs.Common.{take, Some}
use Rattle.std.specs.List.{All}
use Rattle.std.specs.FinMap.{find}
use Rattle.dac_lattice.specs.Lattices.{IsOptionBelow}
use Rattle.dac_lattice.proofs.maps.MapOfLattice.leq.Given as goal

abbrev pub invariant-loop-key : goal.invariant-loop-key
invariant-loop-key g l = All (λ e. IsOptionBelow g.L.Lattice.below (Some e.1) (find g.K.Ord.cmp e.0 l.other)) (take l.key-index l.key-items)

use Rattle.std.proofs.Common.{◌≡◌, take}
use Rattle.dac_lattice.proofs.maps.MapOfLattice.equal.Given as goal

abbrev pub invariant-loop-i : goal.invariant-loop-i
invariant-loop-i g l = take l.i l.mine ≡ take l.i l.theirs

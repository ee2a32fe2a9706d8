use Rattle.std.proofs.Common.{subst}
use Rattle.dac_lattice.specs.Search.{IsInOrder}
use Rattle.dac_sorted.proofs.counted.Counted.tells_invariant.Goals as goal

pub returns : goal.returns
returns g c = subst (IsInOrder g.K.Ord.cmp) c.self.view_is c.self.invariant.in_order

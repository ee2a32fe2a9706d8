use Rattle.std.proofs.Common.{subst, sym}
use Rattle.dac_status.proofs.Common.{key_cmp, are_permits, are_starts}
use Rattle.dac_lattice.specs.Search.{IsInOrder}
use Rattle.dac_status.proofs.walk.Walk.of.Goals as goal

pub invariant_of-result : goal.invariant_of-result
invariant_of-result c = (
  subst (IsInOrder key_cmp) (sym c.entries.ensures) (are_permits c.permissions.result.standing).in_order,
  subst (IsInOrder key_cmp) (sym c.entries-2.ensures) (are_starts c.wishes.result.standing).in_order,
)

use Rattle.std.proofs.Common.{subst}
use Rattle.dac_sorted.specs.Joining.{AreBefore}
use Rattle.dac_sorted.proofs.merging.can_share.Goals as goal

pub are_before-requires : goal.are_before-requires
are_before-requires g c = rw c.entries.ensures c.requires.in_order

pub returns-clause-before : goal.returns-clause-before
returns-clause-before g c e = subst (λ m. AreBefore g.K.Ord.cmp m c.args.theirs.now) c.entries.ensures (c.are_before.ensures c.if-not-are_before.false)

pub returns-clause-stay : goal.returns-clause-stay
returns-clause-stay g c e i d p = c.leaves.ensures e _ _ (c.digest.ensures i d p) (c.requires.fits i d p)

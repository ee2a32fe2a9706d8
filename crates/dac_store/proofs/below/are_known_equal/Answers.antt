use Rattle.std.proofs.Common.{subst}
use Rattle.dac_store.proofs.below.are_known_equal.Goals as goal

pub returns-in-Some : goal.returns-in-Some
returns-in-Some g c = rw c.in-Some.is (λ e d f. subst (λ t. g.S.DotStore.below c.in-Some.mine.now d t f) (c.is_same.ensures e) (g.met.S.DotStore.laws.same c.in-Some.mine.now d f c.tells_invariant.ensures))

use Rattle.std.proofs.Common.{refl}
use Rattle.dac_sorted.proofs.predicate.chunk_passes.Goals as goal

pub returns-then-all_pass : goal.returns-then-all_pass
returns-then-all_pass g c = (λ _ i d p. c.all_pass.ensures c.if-all_pass.true _ _ ((rw c.in-Some.is at c.requires) i d p), λ _. refl)

pub returns : goal.returns
returns g c = c.each_passes.ensures

use Rattle.std.proofs.Common.{refl, sym, ◌∙◌}
use Rattle.std.proofs.lemmas.Bool.{false≢true}
use Rattle.dac_store.proofs.causal.Causal.new.Goals as goal

pub invariant_of-result : goal.invariant_of-result
invariant_of-result g c = record { store = c.tells_invariant.ensures; held = c.within.ensures.0 c.if-within.true }

pub returns-then-within-clause-ok : goal.returns-then-within-clause-ok
returns-then-within-clause-ok g c = (refl, c.within.ensures.0 c.if-within.true)

pub returns-else-within-clause-err : goal.returns-else-within-clause-err
returns-else-within-clause-err g c = (refl, λ held. absurd (false≢true (sym c.if-within.false ∙ c.within.ensures.1 held)))

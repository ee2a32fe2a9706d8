use Rattle.std.proofs.Common.{◌≡◌, ◌||◌, true, length}
use Rattle.dac_origins.specs.declared.dot.Dot.{Dot}
use Rattle.dac_dots.specs.DotFilters.{may_have}
use Rattle.dac_dots.proofs.SetLemmas.{any_at}
use Rattle.dac_dots.proofs.context.Context.fill.Given as goal

-- each dot is in the filter, or the loop has not passed it
abbrev pub invariant-loop-origin : goal.invariant-loop-origin
invariant-loop-origin l = (q : Dot) → any_at l.initial.entries q ≡ true → (may_have l.filter.slots q || any_at l.entries q) ≡ true

abbrev pub decreases-loop-origin : goal.decreases-loop-origin
decreases-loop-origin l = length l.entries

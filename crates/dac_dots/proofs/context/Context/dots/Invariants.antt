use Rattle.std.proofs.Common.{◌≡◌, ◌++◌, length}
use Rattle.dac_dots.proofs.SetLemmas.{listed}
use Rattle.dac_dots.proofs.context.Context.dots.Given as goal

abbrev pub invariant-loop-origin : goal.invariant-loop-origin
invariant-loop-origin l = l.dots.items ++ listed l.entries ≡ listed l.initial.entries

abbrev pub decreases-loop-origin : goal.decreases-loop-origin
decreases-loop-origin l = length l.entries

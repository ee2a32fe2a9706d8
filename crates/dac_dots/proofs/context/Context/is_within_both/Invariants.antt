use Rattle.std.proofs.Common.{length}
use Rattle.std.specs.FinSet as set
use Rattle.dac_dots.specs.laws.EntryRows.{AreIn}
use Rattle.dac_dots.proofs.SetLemmas.{ArePassed}
use Rattle.dac_dots.proofs.context.Context.is_within_both.Given as goal

abbrev pub invariant-loop-origin : goal.invariant-loop-origin
invariant-loop-origin l = ArePassed (AreIn (set.union l.first l.second)) l.initial.entries l.entries

abbrev pub decreases-loop-origin : goal.decreases-loop-origin
decreases-loop-origin l = length l.entries

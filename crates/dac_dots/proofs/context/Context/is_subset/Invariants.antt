use Rattle.std.proofs.Common.{◌≡◌, ℕ, List, Some, length}
use Rattle.std.specs.FinMap.{find}
use Rattle.dac_lattice.specs.Search.{IsInOrder}
use Rattle.dac_origins.specs.Dots.{origin_cmp}
use Rattle.dac_origins.specs.declared.dot.Origin.{Origin}
use Rattle.dac_dots.specs.laws.EntryRows.{AreIn}
use Rattle.dac_dots.proofs.SetLemmas.{ArePassed}
use Rattle.dac_dots.proofs.context.Context.is_subset.Given as goal

-- at each key that the loop has not passed, `theirs` has what the other context has
abbrev pub invariant-loop-origin : goal.invariant-loop-origin
invariant-loop-origin l = record {
  passed : ArePassed (AreIn l.other) l.initial.mine l.mine;
  in_order : IsInOrder origin_cmp l.theirs;
  ahead : (o : Origin) (ns : List ℕ) → find origin_cmp o l.mine ≡ Some ns → find origin_cmp o l.theirs ≡ find origin_cmp o l.initial.theirs;
}

abbrev pub decreases-loop-origin : goal.decreases-loop-origin
decreases-loop-origin l = length l.mine

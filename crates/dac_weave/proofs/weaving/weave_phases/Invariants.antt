use Rattle.dac_weave.specs.Cut.{rows_of}
use Rattle.dac_weave.proofs.Cutting.{Unfinished}
use Rattle.dac_weave.proofs.weaving.weave_phases.Given as goal

abbrev pub invariant-loop-row : goal.invariant-loop-row
invariant-loop-row l = Unfinished l.config l.journals (rows_of l.ends) l.row-index l.merge l.bounds.items

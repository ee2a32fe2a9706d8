use Rattle.std.proofs.Common.{map}
use Rattle.dac_phases.specs.Ends.{no_ends, lengths_of, rows_of}
use Rattle.dac_phases.proofs.Ended.{Walked}
use Rattle.dac_phases.proofs.ends.phase_ends.Given as goal

abbrev pub invariant-loop-i : goal.invariant-loop-i
invariant-loop-i l = Walked l.phases (map (λ j. j.records) l.closed) (no_ends l.closed) (lengths_of l.closed) l.i (map (λ rs. rs.now) l.journals.items) (rows_of l.ends.items)

use Rattle.std.proofs.Common.{◌≡◌}
use Rattle.dac_placement.specs.Choices.{first_of, load_by, rank_in}
use Rattle.dac_placement.proofs.ranking.least_ranked.Given as goal

abbrev pub invariant-loop-number : goal.invariant-loop-number
invariant-loop-number g l = l.first
    ≡ first_of (rank_in (g.C.Candidates.group l.candidates) (g.C.Candidates.eligible l.candidates) (load_by (g.R.Runs.runs l.runners) (g.R.Runs.apps l.runners) l.app) l.lead.group) l.number

use Rattle.dac_placement.specs.laws.Tests.{eligible_is, runs_is, runner_is}
use Rattle.dac_placement.specs.laws.Standing.{standing_is}
use Rattle.dac_placement.specs.laws.FirstChoice.{first_is}
use Rattle.dac_placement.specs.laws.Judged.{verdict_in_words}
use Rattle.dac_placement.specs.laws.Rests.{candidate_is, rests_is, drained_runs_nothing, only_allowed_run}
use Rattle.dac_placement.specs.laws.Stopped.{stopped_stays}
use Rattle.dac_placement.specs.laws.ByFile.{file_counts, none_before, from_later, fewest_run, lesser_name_wins}
use Rattle.dac_placement.proofs.laws.placement_in_words.Goals as goal

pub returns-clause-eligible : goal.returns-clause-eligible
returns-clause-eligible c = eligible_is

pub returns-clause-runs : goal.returns-clause-runs
returns-clause-runs c = runs_is

pub returns-clause-runner : goal.returns-clause-runner
returns-clause-runner c = runner_is

pub returns-clause-first : goal.returns-clause-first
returns-clause-first c = first_is

pub returns-clause-standing : goal.returns-clause-standing
returns-clause-standing c = standing_is

pub returns-clause-verdict : goal.returns-clause-verdict
returns-clause-verdict c = verdict_in_words

pub returns-clause-candidate : goal.returns-clause-candidate
returns-clause-candidate c = candidate_is

pub returns-clause-rests : goal.returns-clause-rests
returns-clause-rests c = rests_is

pub returns-clause-stopped : goal.returns-clause-stopped
returns-clause-stopped c = stopped_stays

pub returns-clause-drained : goal.returns-clause-drained
returns-clause-drained c = drained_runs_nothing

pub returns-clause-file : goal.returns-clause-file
returns-clause-file c = file_counts

pub returns-clause-none_before : goal.returns-clause-none_before
returns-clause-none_before c = none_before

pub returns-clause-from_later : goal.returns-clause-from_later
returns-clause-from_later c = from_later

pub returns-clause-fewest : goal.returns-clause-fewest
returns-clause-fewest c = fewest_run

pub returns-clause-ties : goal.returns-clause-ties
returns-clause-ties c = lesser_name_wins

pub returns-clause-allowed : goal.returns-clause-allowed
returns-clause-allowed c = only_allowed_run

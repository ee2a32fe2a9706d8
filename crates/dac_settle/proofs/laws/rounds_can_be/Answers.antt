use Rattle.dac_settle.specs.laws.WorkedRound.{rounds_can_be}
use Rattle.dac_settle.specs.laws.MovedRound.{rounds_can_move}
use Rattle.dac_settle.proofs.FailsOver.{runs_can_fail_over}
use Rattle.dac_settle.proofs.Moves.{runs_can_move}
use Rattle.dac_settle.proofs.laws.rounds_can_be.Goals as goal

pub returns-clause-members : goal.returns-clause-members
returns-clause-members c = rounds_can_be

pub returns-clause-moves : goal.returns-clause-moves
returns-clause-moves c = rounds_can_move

pub returns-clause-runs : goal.returns-clause-runs
returns-clause-runs c = runs_can_fail_over

pub returns-clause-drains : goal.returns-clause-drains
returns-clause-drains c = runs_can_move

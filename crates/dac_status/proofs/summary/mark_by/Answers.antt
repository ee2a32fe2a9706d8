use Rattle.dac_status.proofs.Passing.{before_incarnation, before_next_node}
use Rattle.dac_status.proofs.summary.mark_by.Goals as goal

pub mark-requires-clause-before : goal.mark-requires-clause-before
mark-requires-clause-before c = before_incarnation c.args.app c.args.node c.in-Some.inc c.args.walk.now c.requires.before

pub returns-in-Some-clause-before : goal.returns-in-Some-clause-before
returns-in-Some-clause-before c = before_next_node c.args.app c.args.node c.in-Some.inc c.mark.new.self c.mark.ensures.before

pub returns-in-None-clause-before : goal.returns-in-None-clause-before
returns-in-None-clause-before c = before_next_node c.args.app c.args.node 0 c.args.walk.now c.requires.before

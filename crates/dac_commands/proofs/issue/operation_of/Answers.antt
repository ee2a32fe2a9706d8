use Rattle.std.proofs.Common.{ap, sym, subst, ◌∙◌}
use Rattle.dac_operations.specs.declared.act.Act.{Act}
use Rattle.dac_operations.specs.Operations.{fault_of}
use Rattle.dac_commands.specs.Commands.{next_operation}
use Rattle.dac_commands.specs.Written.{IsWritten}
use Rattle.dac_commands.specs.laws.Written.{writes_what_is_said}
use Rattle.dac_commands.proofs.Issues.{issues}
use Rattle.dac_commands.proofs.issue.operation_of.Goals as goal

pub issue-requires-clause-left : goal.issue-requires-clause-left
issue-requires-clause-left c = (issues c.args.config.now c.args.own c.args.state.now c.args.command c.tells_invariant.ensures c.requires.knows c.requires.accepted).left

pub issue-requires-clause-sound : goal.issue-requires-clause-sound
issue-requires-clause-sound c =
    let s = c.args.state.now in
    ap (λ (a : Act). fault_of (next_operation s c.args.own a).dot a) c.in_ok-act.ensures
    ∙ (issues c.args.config.now c.args.own s c.args.command c.tells_invariant.ensures c.requires.knows c.requires.accepted).sound

pub returns-clause-written : goal.returns-clause-written
returns-clause-written c =
    let s = c.args.state.now in
    let is = c.issue.ensures ∙ ap (next_operation s c.args.own) c.in_ok-act.ensures in
    subst (IsWritten c.args.config.now c.args.own s c.args.command) (sym is) (writes_what_is_said c.args.config.now c.args.own s c.args.command c.requires.accepted)

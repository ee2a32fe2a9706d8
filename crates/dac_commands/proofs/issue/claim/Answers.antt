use Rattle.std.proofs.Common.{ap, ◌∙◌}
use Rattle.dac_operations.specs.declared.act.Act.{Act}
use Rattle.dac_operations.specs.Operations.{fault_of}
use Rattle.dac_commands.specs.Commands.{next_operation}
use Rattle.dac_commands.proofs.Issues.{claims_soundly}
use Rattle.dac_commands.proofs.issue.claim.Goals as goal

pub issue-requires-clause-sound : goal.issue-requires-clause-sound
issue-requires-clause-sound c =
    let s = c.args.state.now in
    ap (λ (a : Act). fault_of (next_operation s c.args.own a).dot a) c.claim_act-act.ensures
    ∙ claims_soundly c.args.own s c.args.app c.args.how c.args.from c.requires.knows

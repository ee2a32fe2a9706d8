use Rattle.std.proofs.Common.{◌≡◌, ◌+◌, ap, ◌∙◌}
use Rattle.dac_origins.specs.declared.dot.Dot.{Dot}
use Rattle.dac_origins.specs.Dots.{dot}
use Rattle.dac_operations.specs.Operations.{operation, fault_of}
use Rattle.dac_commands.specs.Commands.{greatest_counter}
use Rattle.dac_commands.proofs.Issues.{next_there, next_dot}
use Rattle.dac_commands.proofs.issue.issue.Goals as goal

pub unwrap-dot-requires : goal.unwrap-dot-requires
unwrap-dot-requires c = next_there c.args.state.now c.args.own c.known.result.now c.next.result c.known.ensures c.next.ensures c.requires.left

pub made_of-requires : goal.made_of-requires
made_of-requires c =
    let is : c.unwrap-dot.result ≡ dot c.args.own (greatest_counter c.args.own c.args.state.now.known + 1) =
    next_dot c.args.state.now c.args.own c.known.result.now c.next.result c.unwrap-dot.result c.known.ensures c.next.ensures c.unwrap-dot.ensures in
    ap (λ (d : Dot). fault_of d c.args.act) is ∙ c.requires.sound

pub returns : goal.returns
returns c =
    let is : c.unwrap-dot.result ≡ dot c.args.own (greatest_counter c.args.own c.args.state.now.known + 1) =
    next_dot c.args.state.now c.args.own c.known.result.now c.next.result c.unwrap-dot.result c.known.ensures c.next.ensures c.unwrap-dot.ensures in
    c.made_of.ensures ∙ ap (λ (d : Dot). operation d c.args.act) is

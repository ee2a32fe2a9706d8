use Rattle.std.proofs.Common.{rules, ◌≡◌, refl, arith}
use Rattle.dac_ticks.specs.laws.Common.{node_count, default_permission}
use Rattle.dac_ticks.proofs.Alike.{one_group}
use Rattle.dac_ticks.proofs.kept.are_alike_for.Goals as goal

pub returns-then-lists_alike : goal.returns-then-lists_alike
returns-then-lists_alike c =
    let one = c.lists_alike.ensures.0 c.if-lists_alike.true in
    (λ _. record { permission = one.permission; groups = λ node _. one_group c.args.one.now c.args.other.now c.args.app node one }, λ _. refl)

pub returns : goal.returns
returns c =
    let up_to = c.loop-number.auto.number-end in
    let not_below = c.loop-number-test.false in
    let count = c.nodes-number-end.ensures.count in
    let end : c.loop-number.number ≡ node_count c.args.one.now = omega arith in
    let permission : default_permission c.args.one.now c.args.app ≡ default_permission c.args.other.now c.args.app = search rules in
    (λ _. record { permission = permission; groups = λ node lt. c.loop-number.invariant node.0 (omega (arith, lt, end)) }, λ _. refl)

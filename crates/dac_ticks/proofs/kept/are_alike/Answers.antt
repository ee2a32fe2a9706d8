use Rattle.std.proofs.Common.{rules, ◌≡◌, ◌<◌, arith}
use Rattle.dac_ticks.specs.laws.Common.{false≢true, node_count, app_count}
use Rattle.dac_ticks.proofs.Alike.{numbered_app, goes_for}
use Rattle.dac_ticks.proofs.kept.are_alike.Goals as goal

pub returns-then-not-are_alike_for-clause-alike : goal.returns-then-not-are_alike_for-clause-alike
returns-then-not-are_alike_for-clause-alike c =
    let up_to = c.loop-number.auto.number-end in
    let below = c.loop-number-test.true in
    let count = c.apps-number-end.ensures.count in
    let listed : c.loop-number.number < app_count c.args.one.now = omega arith in
    (λ e. absurd (false≢true e), λ alike. c.if-not-are_alike_for.ensures.1 (alike.each (numbered_app c.loop-number.number) listed))

pub returns-clause-goes : goal.returns-clause-goes
returns-clause-goes c =
    let up_to = c.loop-number.auto.number-end in
    let not_below = c.loop-number-test.false in
    let count = c.apps-number-end.ensures.count in
    let end : c.loop-number.number ≡ app_count c.args.one.now = omega arith in
    let nodes : node_count c.args.one.now ≡ node_count c.args.other.now = search rules in
    let apps : app_count c.args.one.now ≡ app_count c.args.other.now = search rules in
    λ _. goes_for c.args.one.now c.args.other.now c.apps.ensures.members c.apps-2.ensures.members (record {
      nodes = nodes;
      apps = apps;
      each = λ app lt. c.loop-number.invariant app.0 (omega (arith, lt, end));
    })

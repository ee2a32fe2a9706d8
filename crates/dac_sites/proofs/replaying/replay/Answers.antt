use Rattle.std.proofs.Common.{take, ap, ◌∙◌}
use Rattle.dac_sites.specs.laws.Common.{shown, beginning_of, node_after}
use Rattle.dac_sites.proofs.Bringing.{node_more}
use Rattle.dac_sites.proofs.replaying.replay.Goals as goal

pub loop-i-preserved : goal.loop-i-preserved
loop-i-preserved c =
    let t = c.args.config.now in
    let o = beginning_of t c.args.me c.args.last in
    let rs = c.args.records.now in
    let one = c.index-records-i.result in
    ap (shown t) (node_more o rs c.loop-i.i one c.loop-i-test.true c.index-records-i.is) ∙ c.in_ok-go_on.ensures (node_after o (take c.loop-i.i rs)) c.loop-i.invariant

use Rattle.std.proofs.Common.{ap, arith}
use Rattle.dac_peers.specs.laws.Common.{NodeId, number_acked}
use Rattle.dac_peers.specs.laws.Least.{all_have_the_least, is_number}
use Rattle.dac_peers.proofs.peers.Peers.acked_past.Goals as goal

-- the number that all nodes acknowledged is at most each node's
pub returns-then-acked-base : goal.returns-then-acked-base
returns-then-acked-base c =
    let p = c.args.self.now in
    let s = c.args.state.now in
    let node : NodeId = record { 0 = c.loop-number.number } in
    let other = c.if-number-own.true in
    let least = (all_have_the_least p s c.args.nodes c.args.own).at_most node (number_acked p s node) (c.loop-number-test.true, λ same. other (ap (λ (n : NodeId). n.0) same)) (is_number p s node) in
    let acked = c.number_acked-acked.ensures in
    let few = c.if-acked-base.true in
    omega (arith, least, acked, few)

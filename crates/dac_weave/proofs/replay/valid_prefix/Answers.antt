use Rattle.std.proofs.Common.{◌≡◌, subst, false, nat_lt, ◌≤◌, ◌<◌, ℕ}
use Rattle.dac_weave.specs.laws.Common.{NodeId, node_count}
use Rattle.dac_weave.proofs.Replays.{replay_nowhere, outside, replay_start, read_turn, read_stop, read_end}
use Rattle.dac_weave.proofs.replay.valid_prefix.Goals as goal

pub returns-then-me-nodes : goal.returns-then-me-nodes
returns-then-me-nodes c = replay_nowhere c.args.config.now c.args.journal.now (subst (λ (n : NodeId). nat_lt n.0 (node_count c.args.config.now) ≡ false) c.node-me.ensures (outside c.node-me.result.0 (node_count c.args.config.now) (subst (λ (k : ℕ). k ≤ c.node-me.result.0) c.nodes.ensures.count c.if-me-nodes.true)))

pub loop-i-init : goal.loop-i-init
loop-i-init c = replay_start c.args.config.now c.args.journal.now c.node-me.result c.off-node.result c.node-me.ensures (subst (λ (k : ℕ). c.node-me.result.0 < k) c.nodes.ensures.count c.if-me-nodes.false) c.off-node.ensures.value

pub returns-then-not-same : goal.returns-then-not-same
returns-then-not-same c =
    read_stop c.args.config.now c.args.journal.now c.loop-i.i c.loop-i.node c.repeat.new.node c.records-records.result.now c.index-records-i.result c.index-records-i.is c.node-me.result c.node-me.ensures c.records-records.ensures.value c.in_ok-same.same
    c.loop-i-test.true c.if-not-same.true c.loop-i.invariant c.in_ok-same.ensures

pub loop-i-preserved : goal.loop-i-preserved
loop-i-preserved c =
    read_turn c.args.config.now c.args.journal.now c.loop-i.i c.loop-i.node c.repeat.new.node c.records-records.result.now c.index-records-i.result c.index-records-i.is c.node-me.result c.node-me.ensures c.records-records.ensures.value c.in_ok-same.same
    c.loop-i-test.true c.if-not-same.false c.loop-i.invariant c.in_ok-same.ensures

pub returns : goal.returns
returns c = read_end c.args.config.now c.args.journal.now c.loop-i.i c.loop-i.node c.records-records.result.now c.records-records.ensures.value c.loop-i-test.false c.loop-i.auto.i-end c.loop-i.invariant

use Rattle.std.proofs.Common.{bytes_eq, option_map, ap, sym, ◌∙◌}
use Rattle.dac_config.proofs.Common.{position_from, cond-true, cond-false, at_drop_all}
use Rattle.std.proofs.lemmas.Iterator.Adapters.{position_from-zero}
use Rattle.dac_config.proofs.Tables.{node_from}
use Rattle.dac_config.proofs.config.Config.node_named.Goals as goal

pub loop-at-init : goal.loop-at-init
loop-at-init c = sym (position_from-zero (λ row. bytes_eq c.args.name.now row.name) c.args.self.now.nodes)

pub node_name-requires : goal.node_name-requires
node_name-requires c = rw c.nodes-at-end.ensures.count at c.loop-at-test.true

pub loop-at-preserved : goal.loop-at-preserved
loop-at-preserved c =
    let left = node_from c.args.name.now c.args.self.now c.loop-at.at c.node_name.result.now (rw c.nodes-at-end.ensures.count at c.loop-at-test.true) c.node_name.ensures in
    sym (cond-false _ _ _ (sym c.if-eq.ensures)) ∙ sym left ∙ c.loop-at.invariant

pub returns-then-eq : goal.returns-then-eq
returns-then-eq c =
    let left = node_from c.args.name.now c.args.self.now c.loop-at.at c.node_name.result.now (rw c.nodes-at-end.ensures.count at c.loop-at-test.true) c.node_name.ensures in
    ap (option_map (λ place. record { 0 = place })) (sym (cond-true _ _ _ (sym c.if-eq.ensures)) ∙ sym left ∙ c.loop-at.invariant)

pub returns : goal.returns
returns c =
    ap (option_map (λ place. record { 0 = place })) (sym (at_drop_all (position_from (λ row. bytes_eq c.args.name.now row.name) c.loop-at.at) c.args.self.now.nodes c.loop-at.at (rw c.nodes-at-end.ensures.count at c.loop-at-test.false)) ∙ c.loop-at.invariant)

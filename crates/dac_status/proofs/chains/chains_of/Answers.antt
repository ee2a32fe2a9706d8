use Rattle.std.proofs.Common.{sym, subst, arith}
use Rattle.dac_status.proofs.Common.{MAX_NODES, node_count, IsNext}
use Rattle.std.proofs.lemmas.List.{get_or-replicate}
use Rattle.dac_status.proofs.chains.chains_of.Goals as goal

pub loop-number-init : goal.loop-number-init
loop-number-init c =
    let count = c.nodes-nodes.ensures.count in
    record {
      within = omega (arith, count);
      chains = record {
        begins = λ group few. subst (IsNext c.args.groups.now (node_count c.args.config.now) group c.nodes-nodes.result) (sym (get_or-replicate MAX_NODES group c.nodes-nodes.result 0 few))
            (record { past = omega arith; within = omega (arith, count); none = λ n low high at. omega (arith, low, high); there = λ more. absurd (omega (arith, count, more)) });
        goes_on = λ group n few low high at. absurd (omega (arith, count, low, high));
      };
    }

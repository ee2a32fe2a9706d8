use Rattle.std.proofs.Common.{ap, ◌∙◌, refl, rules}
use Rattle.dac_play.proofs.Common.{pairs}
use Rattle.dac_play.proofs.Shares.{share_more, share_all, shares_all}
use Rattle.dac_play.proofs.sharing.share.Goals as goal

pub returns-clause-leads : goal.returns-clause-leads
returns-clause-leads c =
    let all_is = c.deref-pair-items.ensures.value ∙ c.in_ok-pairs.ensures ∙ ap pairs (c.deref.ensures.value ∙ c.in_ok-nodes.ensures) in
    share_all c.args.config.now c.args.world.now c.loop-pair.world _ c.loop-pair.pair-index _ c.loop-pair-test.false c.requires all_is c.loop-pair.invariant.leads

pub returns-clause-tells : goal.returns-clause-tells
returns-clause-tells c =
    let all_is = c.deref-pair-items.ensures.value ∙ c.in_ok-pairs.ensures ∙ ap pairs (c.deref.ensures.value ∙ c.in_ok-nodes.ensures) in
    shares_all c.args.config.now c.args.world.now c.loop-pair.world _ c.loop-pair.pair-index _ c.loop-pair-test.false c.requires all_is c.loop-pair.invariant.leads

pub loop-pair-preserved : goal.loop-pair-preserved
loop-pair-preserved c =
    record {
      count = search rules;
      leads = share_more c.args.config.now c.args.world.now c.loop-pair.world c.tell.new.world _ c.loop-pair.pair-index _ (record { 0 = 0 }, record { 0 = 0 }) c.loop-pair-test.true refl c.loop-pair.invariant.leads c.in_ok-tell.ensures.leads;
    }

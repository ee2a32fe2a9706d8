use Rattle.std.proofs.Common.{◌&&◌, ap, sym, ◌∙◌}
use Rattle.dac_base.specs.declared.NodeId.{NodeId}
use Rattle.dac_config.specs.Table.{is_mandatory, is_optional}
use Rattle.dac_decide.specs.declared.start_gate.Present.{Present}
use Rattle.dac_decide.specs.StartGate.{is_live_if, both}
use Rattle.dac_decide.specs.laws.AllUp.{numbered, all_more}
use Rattle.dac_decide.proofs.start_gate.present_of.Goals as goal

pub loop-number-preserved : goal.loop-number-preserved
loop-number-preserved c =
    let next = c.both-present.ensures ∙ ap (both c.loop-number.present) c.present_at-more.ensures in
    let node : NodeId = numbered c.loop-number.number in
    record {
      mandatory =
          ap (λ (p : Present). p.mandatory) next
          ∙ ap (λ b. b && is_live_if c.args.state.now node (is_mandatory c.args.config.now node)) c.loop-number.invariant.mandatory
          ∙ sym (all_more (λ node. is_live_if c.args.state.now node (is_mandatory c.args.config.now node)) c.loop-number.number);
      optional =
          ap (λ (p : Present). p.optional) next
          ∙ ap (λ b. b && is_live_if c.args.state.now node (is_optional c.args.config.now node)) c.loop-number.invariant.optional
          ∙ sym (all_more (λ node. is_live_if c.args.state.now node (is_optional c.args.config.now node)) c.loop-number.number);
    }

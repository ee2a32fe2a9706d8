use Rattle.std.proofs.Common.{◌≡◌}
use Rattle.dac_config.specs.Table.{is_mandatory, is_optional}
use Rattle.dac_decide.specs.StartGate.{is_live_if}
use Rattle.dac_decide.specs.laws.AllUp.{all_first}
use Rattle.dac_decide.proofs.start_gate.present_of.Given as goal

abbrev pub invariant-loop-number : goal.invariant-loop-number
invariant-loop-number l = record {
  mandatory : l.present.mandatory ≡ all_first (λ node. is_live_if l.state node (is_mandatory l.config node)) l.number;
  optional : l.present.optional ≡ all_first (λ node. is_live_if l.state node (is_optional l.config node)) l.number;
}

use Rattle.std.proofs.Common.{◌≡◌, ◌-◌, sym, ap₂, subst, ◌∙◌}
use Rattle.dac_decide.specs.StartGate.{IsOpening, opening_by, opening_of}
use Rattle.dac_decide.specs.laws.AllUp.{opening_is}
use Rattle.dac_decide.proofs.start_gate.gate.Goals as goal

pub returns-clause-cases : goal.returns-clause-cases
returns-clause-cases c =
    let elapsed = c.args.now - c.args.booted in
    let value : c.opening_by.result ≡ opening_of c.args.config.now c.args.state.now elapsed = c.opening_by.ensures ∙ ap₂ (λ wait present. opening_by wait present elapsed) c.sync_wait.ensures c.present_of.ensures in
    subst (IsOpening c.args.config.now c.args.state.now elapsed) (sym value) (opening_is c.args.config.now c.args.state.now elapsed)

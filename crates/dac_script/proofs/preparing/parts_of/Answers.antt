use Rattle.dac_script.specs.laws.Common.{err_from_is_err_and}
use Rattle.dac_script.specs.laws.WholeInput.{config_fails, script_has}
use Rattle.dac_script.proofs.preparing.parts_of.Goals as goal

pub returns-in_err-config-clause-fails : goal.returns-in_err-config-clause-fails
returns-in_err-config-clause-fails g c =
    let p = err_from_is_err_and c.from_residual.result c.from_residual.ensures.1 in
    rw p.1 (config_fails g.L.ReadsLine.spells g.L.ReadsLine.has_fault c.args.text.now c.in-Some.config.now c.in-Some.script.now c.in_err-config.field-0.0 p.0 c.in-Some.ensures c.in_err-config.ensures.exact p.2)

pub returns-in_err-script-clause-fails : goal.returns-in_err-script-clause-fails
returns-in_err-script-clause-fails g c =
    let p = err_from_is_err_and c.from_residual-in_err-script.result c.from_residual-in_err-script.ensures.1 in
    rw (p.1, p.2) (script_has g.L.ReadsLine.spells g.L.ReadsLine.has_fault c.args.text.now c.in-Some.config.now c.in-Some.script.now c.in_ok-config.config _ c.in-Some.ensures c.in_ok-config.ensures.found c.in_err-script.ensures.fault)

pub returns-clause-says : goal.returns-clause-says
returns-clause-says g c = record {
  config = c.in-Some.config.now;
  script = c.in-Some.script.now;
  parted = c.in-Some.ensures;
  table_is = c.in_ok-config.ensures.found;
  lines_are = c.in_ok-script.ensures.ok;
}

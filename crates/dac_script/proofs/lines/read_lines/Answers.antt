use Rattle.dac_script.specs.laws.Common.{err_from_is_err_and}
use Rattle.dac_script.proofs.LineByLine.{script_fails}
use Rattle.dac_script.proofs.lines.read_lines.Goals as goal

pub returns-in_err-read_next-clause-fault : goal.returns-in_err-read_next-clause-fault
returns-in_err-read_next-clause-fault g c =
    let p = err_from_is_err_and c.from_residual.result c.from_residual.ensures.1 in
    rw (p.1, p.2) (script_fails g.L.ReadsLine.spells g.L.ReadsLine.has_fault c.args.config.now c.args.text.now c.loop-script.rest.now c.first_line.result.0.now c.first_line.result.1 c.loop-script.number c.loop-script.script.items _ c.first_line.ensures.last c.first_line.ensures.more c.in_err-read_next.ensures.fault c.loop-script.invariant.so_far)

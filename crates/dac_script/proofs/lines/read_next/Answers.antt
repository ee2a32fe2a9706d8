use Rattle.std.proofs.Common.{sym}
use Rattle.dac_script.proofs.LineByLine.{reads_silent, reads_more}
use Rattle.dac_script.proofs.lines.read_next.Goals as goal

pub returns-in_ok-push-clause-ok : goal.returns-in_ok-push-clause-ok
returns-in_ok-push-clause-ok g c =
    rw c.in_ok-push.ensures.items (reads_more g.L.ReadsLine.spells g.L.ReadsLine.has_fault c.args.config.now c.args.line.now c.args.script.now.items c.in_ok-read_line.field-0 (sym c.if-is_said.ensures) c.in_ok-read_line.ensures.ok)

pub returns-else-is_said-clause-ok : goal.returns-else-is_said-clause-ok
returns-else-is_said-clause-ok g c =
    reads_silent g.L.ReadsLine.spells g.L.ReadsLine.has_fault c.args.config.now c.args.line.now c.args.script.now.items (sym c.if-is_said.ensures)

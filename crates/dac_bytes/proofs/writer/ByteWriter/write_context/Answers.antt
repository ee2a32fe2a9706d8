use Rattle.dac_dots.specs.laws.RowLaws.{rows_tell}
use Rattle.dac_bytes.proofs.writer.ByteWriter.write_context.Goals as goal

pub returns-clause-rows : goal.returns-clause-rows
returns-clause-rows c = rows_tell c.args.context.now

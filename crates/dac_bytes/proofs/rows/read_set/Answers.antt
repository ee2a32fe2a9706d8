use Rattle.dac_bytes.proofs.ReadRows.{given_set}
use Rattle.dac_bytes.proofs.rows.read_set.Goals as goal

pub returns : goal.returns
returns c = given_set c.args.version c.args.nodes c.args.reader c.read_rows.result c.read_rows.ensures

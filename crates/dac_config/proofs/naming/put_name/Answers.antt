use Rattle.dac_config.proofs.Gaining.{then}
use Rattle.dac_config.proofs.naming.put_name.Goals as goal

pub returns : goal.returns
returns g c = rw c.quote_of-quote.ensures (then c.put.ensures (then c.put-2.ensures c.put-3.ensures))

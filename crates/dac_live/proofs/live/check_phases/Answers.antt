use Rattle.dac_live.proofs.Joined.{links_hold}
use Rattle.dac_live.proofs.live.check_phases.Goals as goal

pub returns-in_default-clause-links : goal.returns-in_default-clause-links
returns-in_default-clause-links c = links_hold c.args.phases.now c.args.closed.now (c.in_ok-node.ensures c.in_default.is)

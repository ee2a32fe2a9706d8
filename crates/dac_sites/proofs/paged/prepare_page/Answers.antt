use Rattle.dac_sites.proofs.Bringing.{ready_is}
use Rattle.dac_sites.proofs.paged.prepare_page.Goals as goal

pub returns : goal.returns
returns c = ready_is _ _ _ _ c.in_ok-prepare.ensures c.in_ok-update.ensures

use Rattle.std.proofs.Common.{length, refl}
use Rattle.dac_weave.proofs.Placed.{still-found}
use Rattle.dac_weave.proofs.merge.Merge.find_any.Goals as goal

pub returns-in-None : goal.returns-in-None
returns-in-None c = still-found c.args.journals.now c.args.self.now c.args.from (length c.args.journals.now) refl c.in-None.ensures _ c.find_between-in-None.result c.find_between-in-None.ensures

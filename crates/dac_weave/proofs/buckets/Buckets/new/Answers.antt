use Rattle.dac_weave.proofs.Finding.{none-in}
use Rattle.dac_weave.proofs.buckets.Buckets.new.Goals as goal

pub returns : goal.returns
returns c = none-in c.loop.lists.items c.loop.invariant.empty

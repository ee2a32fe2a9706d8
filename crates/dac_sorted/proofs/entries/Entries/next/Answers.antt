use Rattle.dac_sorted.proofs.EntryLemmas.{next_some}
use Rattle.dac_sorted.proofs.entries.Entries.next.Goals as goal

pub returns : goal.returns
returns g c = next_some c.args.self.now c.pass.new.self c.first-first.result c.first-first.ensures c.pass.ensures

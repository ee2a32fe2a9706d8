use Rattle.dac_crews.specs.Rooms.{HaveRoom}
use Rattle.dac_crews.proofs.setup.put_links_of.Given as goal

abbrev pub invariant-loop-to : goal.invariant-loop-to
invariant-loop-to l = HaveRoom l.all.items

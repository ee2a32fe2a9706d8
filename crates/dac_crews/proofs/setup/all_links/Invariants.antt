use Rattle.dac_crews.specs.Rooms.{HaveRoom}
use Rattle.dac_crews.proofs.setup.all_links.Given as goal

abbrev pub invariant-loop-node : goal.invariant-loop-node
invariant-loop-node l = HaveRoom l.all.items

abbrev pub invariant-loop-from : goal.invariant-loop-from
invariant-loop-from l = HaveRoom l.all.items

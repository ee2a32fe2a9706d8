use Rattle.std.proofs.Common.{◌≡◌, take}
use Rattle.dac_sites.specs.laws.Common.{shown, beginning_of, node_after}
use Rattle.dac_sites.proofs.replaying.replay.Given as goal

abbrev pub invariant-loop-i : goal.invariant-loop-i
invariant-loop-i l = shown l.config (node_after (beginning_of l.config l.me l.last) (take l.i l.records)) ≡ l.node

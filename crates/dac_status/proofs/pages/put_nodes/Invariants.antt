use Rattle.std.proofs.Common.{◌≡◌, ◌++◌}
use Rattle.dac_status.proofs.Common.{node_line}
use Rattle.dac_status.proofs.Places.{node_numbered}
use Rattle.dac_status.proofs.Lines.{texts}
use Rattle.dac_status.proofs.pages.put_nodes.Given as goal

abbrev pub invariant-loop-number : goal.invariant-loop-number
invariant-loop-number l = l.text.items ≡ l.fn.text.items ++ texts node_numbered (node_line l.config l.summary.lives l.summary.drained) l.number

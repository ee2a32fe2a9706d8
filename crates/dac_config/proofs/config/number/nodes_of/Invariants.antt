use Rattle.std.proofs.Common.{◌≡◌, ◌++◌, map, drop}
use Rattle.dac_config.proofs.Common.{names_of, draft_of, numbered_node, node_row}
use Rattle.dac_config.proofs.config.number.nodes_of.Given as goal

abbrev pub invariant-loop-name : goal.invariant-loop-name
invariant-loop-name l = map node_row l.nodes.items ++ map (numbered_node (draft_of l.fn.draft)) (names_of (drop l.name-index l.name-items)) ≡ map (numbered_node (draft_of l.fn.draft)) (names_of l.name-items)

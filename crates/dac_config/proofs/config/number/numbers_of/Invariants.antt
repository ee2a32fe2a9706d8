use Rattle.std.proofs.Common.{◌≡◌, ◌++◌, map, drop}
use Rattle.dac_config.proofs.Common.{names_of, numbers_from, node_row}
use Rattle.dac_config.proofs.config.number.numbers_of.Given as goal

abbrev pub invariant-loop-number : goal.invariant-loop-number
invariant-loop-number l = l.numbers.items ++ numbers_from l.number (map node_row (drop l.number l.nodes)) (names_of l.group) ≡ numbers_from 0 (map node_row l.nodes) (names_of l.group)

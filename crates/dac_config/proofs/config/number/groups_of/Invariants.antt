use Rattle.std.proofs.Common.{◌≡◌, ◌++◌, map, drop}
use Rattle.dac_config.proofs.Common.{groups_of, numbers_from, node_row}
use Rattle.dac_config.proofs.config.number.groups_of.Given as goal

abbrev pub invariant-loop-group : goal.invariant-loop-group
invariant-loop-group l = map (λ group. group.items) l.numbered.items ++ map (numbers_from 0 (map node_row l.nodes)) (groups_of (drop l.group-index l.groups)) ≡ map (numbers_from 0 (map node_row l.nodes)) (groups_of l.groups)

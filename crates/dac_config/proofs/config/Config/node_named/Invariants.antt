use Rattle.std.proofs.Common.{◌≡◌, drop, bytes_eq, position}
use Rattle.std.specs.List.{position_from}
use Rattle.dac_config.proofs.config.Config.node_named.Given as goal

abbrev pub invariant-loop-at : goal.invariant-loop-at
invariant-loop-at l = position_from (λ row. bytes_eq l.name row.name) l.at (drop l.at l.self.nodes) ≡ position (λ row. bytes_eq l.name row.name) l.self.nodes

use Rattle.std.proofs.Common.{ap, sym, ◌∙◌}
use Rattle.dac_peers.specs.laws.Common.{nodes_total}
use Rattle.std.specs.FinMap as map
use Rattle.dac_peers.proofs.positions.Positions.get.Goals as goal

pub returns : goal.returns
returns c = c.get.ensures ∙ (sym (map.get-from_entries nodes_total c.self.inside.positions c.args.node) ∙ ap (λ m. map.get m c.args.node) c.self.view_is)

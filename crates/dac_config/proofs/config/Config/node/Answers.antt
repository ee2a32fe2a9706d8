use Rattle.std.proofs.Common.{arith}
use Rattle.dac_config.proofs.Tables.{node_within, node_kept}
use Rattle.dac_config.proofs.config.Config.node.Goals as goal

pub index-requires : goal.index-requires
index-requires c = omega (arith, node_within c.tables.result.now c.args.self.now c.tables.ensures.view c.args.node.0 c.requires, c.tables.result.now.nodes.ok.0)

pub returns : goal.returns
returns c = node_kept c.tables.result.now c.args.self.now c.tables.ensures.view c.args.node.0 c.index.result.now c.index.ensures c.requires

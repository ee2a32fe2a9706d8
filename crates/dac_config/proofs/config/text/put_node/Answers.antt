use Rattle.dac_config.proofs.config.text.put_node.Goals as goal

pub returns : goal.returns
returns g c = rw c.node_name.ensures at c.put_name.ensures

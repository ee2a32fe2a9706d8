use Rattle.dac_config.proofs.Numbers.{sorted_once}
use Rattle.dac_config.proofs.config.number.in_byte_order.Goals as goal

pub returns : goal.returns
returns c = sorted_once c.args.names.now.items c.sort_unstable.new.self.items c.dedup.new.self.items c.sort_unstable.ensures.permutation c.sort_unstable.ensures.sorted c.dedup.ensures.filtered

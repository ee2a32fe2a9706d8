use Rattle.dac_first_fault.proofs.Order.{well_so_far}
use Rattle.dac_first_fault.proofs.Alone.{one_fault}
use Rattle.dac_first_fault.proofs.Only.{fault_law}
use Rattle.dac_first_fault.proofs.laws.first_fault.Goals as goal

pub returns : goal.returns
returns c = record { first = fault_law c.limits_in_text_order.ensures.order c.limits_in_text_order.ensures.nodes c.args.text.now c.new-tokens.result c.new-tokens.ensures.read c.new-tokens.ensures.end c.new-tokens.ensures.spelled c.new-tokens.ensures.stopped; alone = one_fault c.args.text.now c.new-tokens.result c.new-tokens.ensures.spelled c.new-tokens.ensures.stopped; so_far = well_so_far }

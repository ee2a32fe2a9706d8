use Rattle.std.proofs.Common.{sym, arith}
use Rattle.dac_origins.specs.laws.Dots.{dots_total, exact_dots}
use Rattle.dac_origins.specs.InOrder.{in_order}
use Rattle.dac_origins.specs.laws.InOrder.{in_order-rising}
use Rattle.dac_sorted.specs.laws.Appending.{above_last_key, all_without_last}
use Rattle.dac_store.proofs.dot_set.DotSet.ends_below.Goals as goal

pub returns-in-Some : goal.returns-in-Some
returns-in-Some c =
    rw (c.is_lt.ensures, c.cmp.ensures)
    (sym (above_last_key dots_total (in_order c.args.self.now) _ c.in-Some.last.now c.args.dot (in_order-rising dots_total exact_dots c.args.self.now) (omega arith) (sym (rw c.dots.ensures at c.in-Some.ensures.value))))

pub returns-in-None : goal.returns-in-None
returns-in-None c = all_without_last _ (in_order c.args.self.now) (rw c.dots.ensures at c.in-None.ensures.value)

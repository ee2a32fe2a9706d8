use Rattle.std.proofs.Common.{◌∙◌, ap, nat_eq}
use Rattle.std.specs.FinSet as set
use Rattle.dac_origins.specs.laws.Dots.{dots_total, exact_dots}
use Rattle.dac_origins.specs.InOrder.{in_order}
use Rattle.dac_origins.specs.laws.InOrder.{in_order-rising, in_order-same}
use Rattle.dac_origins.specs.laws.KeyLaws.{len_rising}
use Rattle.dac_store.proofs.dot_set.DotSetDotStore.is_empty.Goals as goal

pub returns : goal.returns
returns c =
    rw c.dots.ensures at c.is_empty.ensures
    ∙ ap (λ n. nat_eq n 0) (len_rising dots_total (in_order c.args.self.now) (in_order-rising dots_total exact_dots c.args.self.now) ∙ ap (λ s. set.len s) (in_order-same dots_total exact_dots c.args.self.now))

use Rattle.std.proofs.Common.{◌∙◌, ap, sym}
use Rattle.dac_dots.specs.Spans.{from_on}
use Rattle.dac_dots.specs.Walking.{counters_after, counters_left}
use Rattle.dac_dots.proofs.further.FurtherIter.of.Goals as goal
use Rattle.dac_dots.proofs.further.FurtherIter.of.Goals.{then-has_zero, else-has_zero}

pub returns : goal.returns
unfolding from_on
returns c = elim c.if-has_zero.branch [
  | then-has_zero w ↦ ap (λ s. counters_left s c.args.spans.now) w.span-is ∙ sym (ap (λ b. counters_after b c.args.spans.now) w.if-has_zero.true)
  | else-has_zero w ↦ ap (λ s. counters_left s c.args.spans.now) w.span-is ∙ sym (ap (λ b. counters_after b c.args.spans.now) w.if-has_zero.false)
]

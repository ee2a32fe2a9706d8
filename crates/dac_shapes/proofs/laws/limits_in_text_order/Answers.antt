use Rattle.dac_shapes.proofs.Within.{within_from, may_from, seen_is}
use Rattle.dac_shapes.proofs.laws.limits_in_text_order.Goals as goal

pub returns : goal.returns
returns c = record {
  order = λ sections. (within_from sections, may_from sections);
  nodes = seen_is;
}

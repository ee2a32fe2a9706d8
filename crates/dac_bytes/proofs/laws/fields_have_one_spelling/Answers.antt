use Rattle.dac_bytes.specs.laws.ContextLaws.{context_takes, context_again}
use Rattle.dac_bytes.specs.laws.Fields.{u8_in_takes, u8_in_again, u16_takes, u16_again, u32_takes, u32_again, u64_in_takes, u64_in_again, incarnation_or_zero_takes, incarnation_or_zero_again, counter_takes, counter_again, node_takes, node_again, origin_takes, origin_again, dot_takes, dot_again, origin_above_takes, origin_above_again, dot_above_takes, dot_above_again}
use Rattle.dac_bytes.proofs.laws.fields_have_one_spelling.Goals as goal

pub returns : goal.returns
returns c = λ version nodes few. record {
  u8_in = λ low high fit. record { takes = u8_in_takes low high; again = λ n is. u8_in_again low high fit n is.0 is.1 };
  u16 = record { takes = u16_takes; again = u16_again };
  u32 = record { takes = u32_takes; again = u32_again };
  u64_in = λ low high fit. record { takes = u64_in_takes low high; again = λ n is. u64_in_again low high fit n is.0 is.1 };
  incarnation_or_zero = record { takes = incarnation_or_zero_takes version; again = incarnation_or_zero_again version };
  counter = record { takes = counter_takes; again = λ n is. counter_again n is.0 is.1 };
  node = record { takes = node_takes version nodes; again = node_again version nodes few };
  origin = record { takes = origin_takes version nodes; again = origin_again version nodes few };
  dot = record { takes = dot_takes version nodes; again = dot_again version nodes few };
  origin_above = λ before. record { takes = origin_above_takes version nodes before; again = λ o is. origin_above_again version nodes few before o is.0 is.1 };
  dot_above = λ before. record { takes = dot_above_takes version nodes before; again = λ d is. dot_above_again version nodes few before d is.0 is.1 };
  context = record { takes = context_takes version nodes; again = context_again version nodes few };
}

use Rattle.std.proofs.Common.{◌∙◌, sym, bytes_eq}
use Rattle.dac_shapes.proofs.Loops.{any_map}
use Rattle.dac_shapes.proofs.names.is_among.Goals as goal

pub returns : goal.returns
returns c = c.contains.ensures.value ∙ sym (any_map (λ other. bytes_eq other c.args.name.now) (λ other. other.now) c.args.names.now)

use Rattle.std.proofs.Common.{arith}
use Rattle.dac_part_bytes.proofs.Common.{node_count}
use Rattle.dac_part_bytes.proofs.PartCodecs.{part_codecs}
use Rattle.dac_part_bytes.proofs.laws.parts_have_one_spelling.Goals as goal

pub returns : goal.returns
returns c = λ version.
    part_codecs version c.args.config.now (omega (arith, c.nodes-nodes.ensures.count, c.nodes-nodes.type_inv)) (omega (arith, c.apps-apps.ensures.count, c.apps-apps.type_inv))
    (c.fields_have_one_spelling.ensures version (node_count c.args.config.now) (omega (arith, c.nodes-nodes.ensures.count, c.nodes-nodes.type_inv)))

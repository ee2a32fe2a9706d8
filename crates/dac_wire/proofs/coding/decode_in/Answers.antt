use Rattle.std.proofs.Common.{Err, sym, ◌∙◌, arith}
use Rattle.dac_wire.specs.laws.Fronts.{front_long}
use Rattle.dac_wire.proofs.Giving.{gives_front, gives_fields, found_fields, only_packet}
use Rattle.dac_wire.proofs.coding.decode_in.Goals as goal

pub decode_fields-requires : goal.decode_fields-requires
decode_fields-requires c = front_long c.args.version c.args.config.now c.args.bytes.now (sym c.preamble_fault.ensures ∙ c.in-None.is)

pub returns-in-Some-clause-only : goal.returns-in-Some-clause-only
returns-in-Some-clause-only c =
    only_packet c.args.version c.args.config.now c.args.bytes.now (c.parts_have_one_spelling.ensures c.args.version) (c.states_have_one_spelling.ensures c.args.version) (Err c.in-Some.fault)
    (gives_front c.args.version c.args.config.now c.args.bytes.now c.in-Some.fault (sym c.preamble_fault.ensures ∙ c.in-Some.is))

pub returns-in-Some-clause-exact : goal.returns-in-Some-clause-exact
returns-in-Some-clause-exact c = gives_front c.args.version c.args.config.now c.args.bytes.now c.in-Some.fault (sym c.preamble_fault.ensures ∙ c.in-Some.is)

pub returns-in-None-clause-found : goal.returns-in-None-clause-found
returns-in-None-clause-found c =
    found_fields c.args.version c.args.config.now c.args.bytes.now (c.parts_have_one_spelling.ensures c.args.version) (c.states_have_one_spelling.ensures c.args.version)
    (λ i. omega (arith, c.type_inv.bytes i)) (sym c.preamble_fault.ensures ∙ c.in-None.is) c.decode_fields.result c.decode_fields.ensures

pub returns-in-None-clause-only : goal.returns-in-None-clause-only
returns-in-None-clause-only c =
    only_packet c.args.version c.args.config.now c.args.bytes.now (c.parts_have_one_spelling.ensures c.args.version) (c.states_have_one_spelling.ensures c.args.version) c.decode_fields.result
    (gives_fields c.args.version c.args.config.now c.args.bytes.now c.decode_fields.result (sym c.preamble_fault.ensures ∙ c.in-None.is) c.decode_fields.ensures)

pub returns-in-None-clause-exact : goal.returns-in-None-clause-exact
returns-in-None-clause-exact c = gives_fields c.args.version c.args.config.now c.args.bytes.now c.decode_fields.result (sym c.preamble_fault.ensures ∙ c.in-None.is) c.decode_fields.ensures

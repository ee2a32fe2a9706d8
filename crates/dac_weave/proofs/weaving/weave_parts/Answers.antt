use Rattle.dac_weave.proofs.Placed.{unwoven, none_recorded}
use Rattle.dac_weave.proofs.weaving.weave_parts.Goals as goal

pub first_left-requires : goal.first_left-requires
first_left-requires c = c.in_ok-weave.ensures.weaves.count

pub returns-in-Some-first_left-clause-unwoven : goal.returns-in-Some-first_left-clause-unwoven
returns-in-Some-first_left-clause-unwoven c =
    unwoven c.args.config.now c.args.parts.now c.weave.new.self c.in_ok-weave.ensures.weaves c.in_default.ensures c.in_ok-weave.ensures.still c.in-Some-first_left.node c.in-Some-first_left.place c.in-Some-first_left.ensures

pub returns-in-Some-first_left-clause-complete : goal.returns-in-Some-first_left-clause-complete
returns-in-Some-first_left-clause-complete c =
    none_recorded c.args.config.now c.args.parts.now c.in-Some-first_left.node c.in-Some-first_left.place
    (unwoven c.args.config.now c.args.parts.now c.weave.new.self c.in_ok-weave.ensures.weaves c.in_default.ensures c.in_ok-weave.ensures.still c.in-Some-first_left.node c.in-Some-first_left.place c.in-Some-first_left.ensures)

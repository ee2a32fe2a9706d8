use Rattle.std.proofs.Common.{◌<◌, ◌∙◌, arith}
use Rattle.dac_base.specs.declared.limits.TheConstants.{MAX_NODES}
use Rattle.dac_config.proofs.Places.{placed, place_found}
use Rattle.dac_config.proofs.config.number.place_of.Goals as goal

pub returns-in-Some : goal.returns-in-Some
returns-in-Some c =
    let low : c.in-Some.place < MAX_NODES = omega (arith, c.in-Some.ensures.within, c.requires) in
    placed c.in-Some.place low ∙ place_found c.args.groups.now c.args.node _ c.in-Some.ensures.place

pub returns-in-None : goal.returns-in-None
returns-in-None c = place_found c.args.groups.now c.args.node _ c.in-None.ensures.place

use Rattle.std.proofs.Common.{◌≡◌, map, subst, ◌∙◌, arith}
use Rattle.dac_config.proofs.Places.{ArePlacesBelow, places_all}
use Rattle.dac_config.proofs.config.number.places_of.Goals as goal

pub returns : goal.returns
returns c =
    let groups = map (λ group. group.items) c.args.groups.now in
    let all : c.loop-node.node ≡ c.args.nodes = omega (arith, c.loop-node.auto.node-end, c.loop-node-test.false) in
    places_all c.args.nodes c.loop-node.places.items groups (c.loop-node.invariant.count ∙ all) c.requires.members (subst (λ n. ArePlacesBelow n c.loop-node.places.items groups) all c.loop-node.invariant.so_far)

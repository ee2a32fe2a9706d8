use Rattle.std.proofs.Common.{ap, sym, ◌∙◌}
use Rattle.std.specs.FinMap as map
use Rattle.dac_peers.specs.Newest.{noted}
use Rattle.dac_peers.proofs.Latest.{of_node}
use Rattle.dac_peers.proofs.acked.Acked.get.Goals as goal

pub returns-in-Some : goal.returns-in-Some
returns-in-Some c =
    let origin = c.args.origin in
    let numbers = c.self.inside.numbers in
    let there = ap (λ latest. noted latest origin.node.0) (sym c.deref.ensures.value) ∙ (sym c.noted_at.ensures ∙ c.in-Some.is) in
    sym (c.self.invariant origin.node c.in-Some.position there)
    ∙ (ap (of_node numbers origin.node) c.if-position-origin.true ∙ ap (λ m. map.get m origin) c.self.view_is)

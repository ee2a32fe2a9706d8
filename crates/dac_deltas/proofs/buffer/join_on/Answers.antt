use Rattle.std.specs.Prelude.{◌≡◌, IfOk, unwrap_or}
use Rattle.std.proofs.Common.{sym, subst}
use Rattle.dac_lattice.specs.laws.Joins.{join_above}
use Rattle.dac_deltas.proofs.buffer.join_on.Goals as goal

pub returns-in-None : goal.returns-in-None
returns-in-None g c =
    let join = g.L.Lattice.join in
    let bottom = g.L.Bottom.bottom in
    let block = c.args.block.now in
    let same = join_above g.met.L.Lattice.laws bottom block g.met.L.Bottom.bottom_value c.tells_invariant.ensures (g.met.L.Bottom.least block c.tells_invariant.ensures) in
    subst (λ j. IfOk c.copy.result (λ both. both ≡ join (unwrap_or j bottom) block)) (sym c.in-None.is)
    (subst (λ x. IfOk c.copy.result (λ both. both ≡ x)) (sym same) c.copy.ensures)

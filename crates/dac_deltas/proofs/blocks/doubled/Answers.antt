use Rattle.std.proofs.Common.{ap, ◌∙◌, arith}
use Rattle.dac_deltas.specs.BlockEnds.{join_at}
use Rattle.dac_deltas.proofs.Joining.{doubled_join}
use Rattle.dac_deltas.proofs.blocks.doubled.Goals as goal

pub returns : goal.returns
returns g c =
    let join = g.L.Lattice.join in
    let e = c.index-end.result.now in
    let joined = c.in_ok-joined.ensures ∙ (ap (λ x. join x c.block-2.result.now) c.block.ensures ∙ ap (join (join_at c.index-middle.result.now c.args.level)) c.block-2.ensures) in
    doubled_join g.L.Lattice.is_value join g.met.L.Lattice.laws c.args.kept.now.items c.args.i c.args.level _ e c.index-middle.result.now _ c.requires.joined c.requires.there c.requires.low c.requires.fits (omega arith) c.index-end.ensures c.index-middle.ensures (omega arith) (omega arith) joined

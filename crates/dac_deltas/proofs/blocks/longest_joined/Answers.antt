use Rattle.std.proofs.Common.{◌-◌, ◌^◌, take, drop, sym, subst, arith}
use Rattle.dac_deltas.specs.BlockEnds.{IsJoinOfDeltas, deltas_of}
use Rattle.dac_deltas.proofs.Joining.{shorter_fits, block_there}
use Rattle.dac_deltas.proofs.blocks.longest_joined.Goals as goal

pub index-end-requires : goal.index-end-requires
index-end-requires g c =
    let long = c.args.kept.now.ok.0 in
    let fits = shorter_fits c.args.begin c.loop-level.level c.args.most _ c.loop-level.invariant c.requires.low c.requires.fits in
    omega arith

pub returns-then-level-clause-join : goal.returns-then-level-clause-join
returns-then-level-clause-join g c =
    let level = c.loop-level.level in
    let es = c.args.kept.now.items in
    let fits = shorter_fits c.args.begin level c.args.most _ c.loop-level.invariant c.requires.low c.requires.fits in
    subst (λ x. IsJoinOfDeltas g.L.Lattice.is_value g.L.Lattice.join x (take (2 ^ level) (drop c.args.begin (deltas_of es)))) (sym c.block.ensures)
    (block_there g.L.Lattice.is_value g.L.Lattice.join c.args.begin level _ es c.index-end.result.now c.requires.joined fits.within (omega arith) c.index-end.ensures (omega arith))

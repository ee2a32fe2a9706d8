use Rattle.std.proofs.Common.{arith}
use Rattle.dac_lattice.specs.laws.PieceLaws.{step_at}
use Rattle.dac_lattice.proofs.pieces.join_deltas.Goals as goal

pub loop-i-preserved : goal.loop-i-preserved
loop-i-preserved g c =
    let laws = g.met.P.Lattice.laws in
    let piece = g.met.P.Piece.piece_laws in
    record {
      within = omega arith;
      value = rw (c.in_ok-joined.ensures, c.in_ok-delta.ensures) (laws.closed _ _ c.loop-i.invariant.value (piece.delta_value _ _));
      means = rw (c.in_ok-joined.ensures, c.in_ok-delta.ensures)
          (step_at laws g.met.P.Bottom.bottom_value g.met.P.Bottom.least piece c.args.operations.now c.loop-i.i _ _ c.requires c.loop-i-test.true c.loop-i.invariant.within c.index-operations-i.is c.loop-i.invariant.value c.loop-i.invariant.means);
    }

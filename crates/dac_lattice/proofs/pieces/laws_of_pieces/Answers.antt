use Rattle.dac_lattice.specs.laws.PieceLaws.{joined_means, together, order_and_repeats}
use Rattle.dac_lattice.proofs.pieces.laws_of_pieces.Goals as goal

pub returns : goal.returns
returns g c =
    let laws = g.met.P.Lattice.laws in
    let value = g.met.P.Bottom.bottom_value in
    let least = g.met.P.Bottom.least in
    let piece = g.met.P.Piece.piece_laws in
    record {
      deltas = joined_means laws value least piece;
      together = together laws value least piece;
      order_and_repeats = order_and_repeats laws value least piece;
    }

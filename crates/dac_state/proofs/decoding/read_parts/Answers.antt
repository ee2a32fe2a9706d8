use Rattle.std.proofs.Common.{◌∙◌, sym}
use Rattle.dac_state.proofs.Making.{read_is_state}
use Rattle.dac_state.proofs.decoding.read_parts.Goals as goal

pub of-standing-requires-clause-alike : goal.of-standing-requires-clause-alike
of-standing-requires-clause-alike c = c.in_ok-pieces.ensures.permitted ∙ sym c.in_ok-pieces.ensures.wished

pub of-standing-requires-clause-drained : goal.of-standing-requires-clause-drained
of-standing-requires-clause-drained c = c.in_ok-pieces.ensures.drained ∙ sym c.in_ok-pieces.ensures.wished

pub new-parts-requires : goal.new-parts-requires
new-parts-requires c =
    let read = c.in_ok-pieces.ensures in
    rw c.of-standing.ensures (read_is_state c.in_ok-heard.ensures.within read.permitted read.wished read.drained c.tells_invariant.ensures c.tells_invariant-2.ensures c.tells_invariant-3.ensures)

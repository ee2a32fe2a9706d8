use Rattle.std.proofs.Common.{ap, Ok}
use Rattle.dac_part_bytes.proofs.Common.{dots_total, exact_dots, in_order-same, keyed_dots_at}
use Rattle.dac_part_bytes.proofs.reading_starts.read_keyed_dots.Goals as goal

pub returns : goal.returns
unfolding keyed_dots_at
returns c =
    rw (← c.in_ok-key.ensures.exact, ← c.nodes.ensures.count, c.in_ok-dots.ensures)
    (ap (λ s. Ok ((c.in_ok-key.key, s), c.in_ok-dots.rest)) (in_order-same dots_total exact_dots c.in_ok-dots.dots))

use Rattle.std.proofs.Common.{ap, Ok}
use Rattle.dac_part_bytes.proofs.Common.{nodes_total, exact_nodes, counted_at, all_lives_at}
use Rattle.dac_part_bytes.specs.Reading.{lives_in_order_at}
use Rattle.dac_part_bytes.proofs.Entries.{map_of_entries}
use Rattle.dac_part_bytes.proofs.reading_chains.read_all_lives.Goals as goal

pub returns : goal.returns
unfolding all_lives_at lives_in_order_at counted_at
returns c = rw (← c.in_ok-count.ensures.exact, ← c.nodes.ensures.count, c.in_ok-read.ensures) (ap (λ m. Ok (m, c.in_ok-read.read.1)) (map_of_entries nodes_total exact_nodes c.in_ok-read.read.0))

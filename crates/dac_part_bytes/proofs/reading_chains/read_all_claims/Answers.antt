use Rattle.std.proofs.Common.{ap, Ok}
use Rattle.dac_part_bytes.proofs.Common.{apps_total, exact_apps, counted_at, all_claims_at}
use Rattle.dac_part_bytes.specs.Reading.{claims_in_order_at}
use Rattle.dac_part_bytes.proofs.Entries.{map_of_entries}
use Rattle.dac_part_bytes.proofs.reading_chains.read_all_claims.Goals as goal

pub returns : goal.returns
unfolding all_claims_at claims_in_order_at counted_at
returns c = rw (← c.in_ok-count.ensures.exact, c.in_ok-read.ensures) (ap (λ m. Ok (m, c.in_ok-read.read.1)) (map_of_entries apps_total exact_apps c.in_ok-read.read.0))

use Rattle.std.proofs.Common.{◌≡◌, ◌-◌}
use Rattle.dac_bytes.specs.Reading.{items_at, further_at}
use Rattle.dac_bytes.specs.Items.{with_front}
use Rattle.dac_bytes.proofs.rows.read_counters.Given as goal

abbrev pub invariant-loop : goal.invariant-loop
invariant-loop l = with_front l.counters.items (items_at further_at (λ n. n) (l.count - l.counter) l.before l.rest) ≡ items_at further_at (λ n. n) l.count l.fn.before l.fn.reader

use Rattle.std.proofs.Common.{◌≡◌, ◌+◌, drop}
use Rattle.dac_dots.specs.Entries.{counted}
use Rattle.dac_dots.proofs.rows.room_after.Given as goal

abbrev pub invariant-loop-counters : goal.invariant-loop-counters
invariant-loop-counters l = l.rest + counted l.entries ≡ l.room + counted (drop l.counters-index l.entries)

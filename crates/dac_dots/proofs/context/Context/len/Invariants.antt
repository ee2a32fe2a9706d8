use Rattle.std.proofs.Common.{◌≡◌, ◌≤◌, ◌+◌, ◌*◌, ◌^◌, length}
use Rattle.dac_dots.specs.Entries.{counted}
use Rattle.dac_dots.proofs.context.Context.len.Given as goal

abbrev pub invariant-loop-counters : goal.invariant-loop-counters
invariant-loop-counters l = record {
  so_far : l.len + counted l.entries ≡ counted l.initial.entries;
  bound : l.len + length l.entries * 2 ^ 65 ≤ length l.initial.entries * 2 ^ 65;
}

abbrev pub decreases-loop-counters : goal.decreases-loop-counters
decreases-loop-counters l = length l.entries

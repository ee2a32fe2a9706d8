use Rattle.std.proofs.Common.{◌≡◌, ◌≤◌, ◌^◌, length, take}
use Rattle.dac_dots.specs.Spans.{counters_in}
use Rattle.dac_dots.proofs.counters.Counters.len.Given as goal

abbrev pub invariant-loop-span : goal.invariant-loop-span
invariant-loop-span l = record {
  so_far : l.len ≡ length (counters_in (take l.span-index l.span-items));
  small : l.len ≤ 2 ^ 64;
}

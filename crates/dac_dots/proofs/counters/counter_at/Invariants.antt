use Rattle.std.proofs.Common.{◌≡◌, drop}
use Rattle.std.specs.List.{slice_get}
use Rattle.dac_dots.specs.Walking.{counters_along}
use Rattle.dac_dots.proofs.counters.counter_at.Given as goal

-- the counter at the index is the one at the remaining index in the remaining spans
abbrev pub invariant-loop-span : goal.invariant-loop-span
invariant-loop-span l = slice_get (counters_along l.spans) l.place ≡ slice_get (counters_along (drop l.span-index l.spans)) l.left

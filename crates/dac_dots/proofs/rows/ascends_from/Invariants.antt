use Rattle.std.proofs.Common.{◌≡◌, ◌+◌, drop}
use Rattle.dac_dots.specs.Rows.{rises_on}
use Rattle.dac_dots.proofs.rows.ascends_from.Given as goal

-- the result depends on the remaining numbers only
abbrev pub invariant-loop-n : goal.invariant-loop-n
invariant-loop-n l = rises_on (l.upto + 1) l.numbers ≡ rises_on l.before (drop l.n-index l.numbers)

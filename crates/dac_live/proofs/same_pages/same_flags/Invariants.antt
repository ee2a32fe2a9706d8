use Rattle.std.proofs.Common.{◌≡◌, take}
use Rattle.dac_live.proofs.same_pages.same_flags.Given as goal

abbrev pub invariant-loop-i : goal.invariant-loop-i
invariant-loop-i l = take l.i l.flags ≡ take l.i l.others

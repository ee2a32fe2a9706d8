use Rattle.std.proofs.Common.{◌≡◌, ◌≤◌, take, map, length}
use Rattle.dac_live.proofs.Common.{found, answer_one}
use Rattle.dac_live.proofs.callers.are_told.Given as goal

abbrev pub invariant-loop-i : goal.invariant-loop-i
invariant-loop-i l = record {
  within : l.next ≤ length l.told;
  same : found (answer_one l.seat) (take l.i l.records) ≡ take l.next (map (λ a. a.now) l.told);
}

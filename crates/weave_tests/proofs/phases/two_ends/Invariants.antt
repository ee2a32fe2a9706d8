use Rattle.std.proofs.Common.{◌≡◌, ◌≤◌, ℕ, take}
use Rattle.std.specs.List.{AllZip}
use Rattle.dac_weave.specs.Cut.{lengths_of}
use Rattle.weave_tests.proofs.phases.two_ends.Given as goal

abbrev pub invariant-loop-i : goal.invariant-loop-i
invariant-loop-i l = record {
  below : AllZip (λ (m n : ℕ). m ≤ n) l.early.items l.whole.items;
  lengths : l.whole.items ≡ lengths_of (take l.i l.journals);
}

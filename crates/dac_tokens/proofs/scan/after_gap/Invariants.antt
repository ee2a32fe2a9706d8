use Rattle.std.proofs.Common.{◌≡◌, ◌≤◌, length, false}
use Rattle.dac_tokens.specs.Scan.{after_gap}
use Rattle.dac_tokens.proofs.scan.after_gap.Given as goal

-- skipping the gap of the rest gives the same bytes as skipping the gap of all
abbrev pub invariant-loop-b : goal.invariant-loop-b
invariant-loop-b l = record {
  same : after_gap l.comment l.rest ≡ after_gap false l.bytes;
  within : length l.rest ≤ length l.bytes;
}

abbrev pub decreases-loop-b : goal.decreases-loop-b
decreases-loop-b l = length l.rest

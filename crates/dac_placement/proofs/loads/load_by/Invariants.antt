use Rattle.std.proofs.Common.{◌≡◌, ◌≤◌}
use Rattle.dac_placement.specs.Choices.{load_by}
use Rattle.dac_placement.proofs.loads.load_by.Given as goal

abbrev pub invariant-loop-number : goal.invariant-loop-number
invariant-loop-number g l = record {
  count : l.load ≡ load_by (g.R.Runs.runs l.runners) l.number l.app l.node;
  few : l.load ≤ l.number;
}

use Rattle.std.proofs.Common.{◌≡◌, ◌+◌, ◌≤◌}
use Rattle.dac_ticks.specs.laws.Common.{KnowsOwnBoot, greatest_counter, sweep_from, sweep_over}
use Rattle.dac_ticks.specs.SweepSoFar.{so_far, IsSparing}
use Rattle.dac_ticks.specs.laws.Sweeping.{apps_from}
use Rattle.dac_ticks.proofs.sweeping.sweep_of.Given as goal

abbrev pub invariant-loop-number : goal.invariant-loop-number
invariant-loop-number l = record {
  sweep : so_far l.state l.progress ≡ sweep_over l.config l.own l.waits l.now (sweep_from l.state) (apps_from 0 l.number);
  knows : KnowsOwnBoot l.own (so_far l.state l.progress).state;
  counter : greatest_counter l.own (so_far l.state l.progress).state.known ≤ greatest_counter l.own l.state.known + l.number;
  sparing : IsSparing l.progress;
}

use Rattle.std.proofs.Common.{ℕ, ◌+◌, ◌<◌}
use Rattle.dac_live.specs.Lines.{CallerHolds}
use Rattle.dac_live.proofs.callers.node_holds.Given as goal

abbrev pub invariant-loop-before : goal.invariant-loop-before
invariant-loop-before l = (k : ℕ) → k < l.before → CallerHolds l.node.0 (k + 1) l.phases l.answers l.records

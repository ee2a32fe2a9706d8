use Rattle.std.proofs.Common.{◌≡◌, ◌+◌, ◌++◌, drop}
use Rattle.dac_play.specs.Ticks.{claims_text}
use Rattle.dac_play.proofs.ticks.put_claims.Given as goal

abbrev pub invariant-loop-operation : goal.invariant-loop-operation
invariant-loop-operation l = record {
  number : l.number ≡ l.before + l.operation-index;
  lines : l.lines.items ++ claims_text l.config l.number (drop l.operation-index l.ops) ≡ l.fn.lines.items ++ claims_text l.config l.before l.ops;
}

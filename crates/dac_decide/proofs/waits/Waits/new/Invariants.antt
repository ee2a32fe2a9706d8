use Rattle.std.proofs.Common.{◌≡◌, []}
use Rattle.dac_decide.specs.laws.Kept.{kept_of}
use Rattle.dac_decide.proofs.waits.Waits.new.Given as goal

abbrev pub invariant-loop : goal.invariant-loop
invariant-loop l = l.noted.items ≡ kept_of [] 0 l.counter

use Rattle.std.proofs.Common.{◌≡◌, ◌<◌, ◌^◌, drop}
use Rattle.dac_script.specs.laws.Common.{value_from}
use Rattle.dac_script.proofs.words.value_of.Given as goal

abbrev pub invariant-loop-digit : goal.invariant-loop-digit
invariant-loop-digit l = record {
  so_far : value_from l.value (drop l.digit-index l.digits) ≡ value_from 0 l.digits;
  fits : l.value < 2 ^ 64;
}

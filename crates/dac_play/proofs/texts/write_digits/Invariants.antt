use Rattle.std.proofs.Common.{◌≡◌, ◌*◌, ◌++◌, length, take, drop}
use Rattle.dac_play.proofs.Common.{encode_lower}
use Rattle.dac_play.proofs.texts.write_digits.Given as goal

abbrev pub invariant-loop-at : goal.invariant-loop-at
invariant-loop-at l = record {
  written : take (2 * l.at) l.line ++ encode_lower (drop l.at l.bytes) ≡ encode_lower l.bytes;
  rest : drop (2 * length l.bytes) l.line ≡ drop (2 * length l.bytes) l.initial.line;
  long : length l.line ≡ length l.initial.line;
}

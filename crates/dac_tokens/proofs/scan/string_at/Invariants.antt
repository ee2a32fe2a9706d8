use Rattle.std.proofs.Common.{◌≡◌, ◌+◌, length, false}
use Rattle.dac_tokens.specs.Scan.{inside_string}
use Rattle.dac_tokens.proofs.scan.string_at.Given as goal

-- reading the rest gives the same result as reading all bytes inside the quotes
abbrev pub invariant-loop-b : goal.invariant-loop-b
invariant-loop-b l = record {
  same : inside_string l.at (l.before + 1) l.escaped l.rest ≡ inside_string l.at (l.at + 1) false l.bytes;
  offset : l.before + length l.rest ≡ l.at + length l.bytes;
}

abbrev pub decreases-loop-b : goal.decreases-loop-b
decreases-loop-b l = length l.rest

use Rattle.std.proofs.Common.{◌≡◌, ◌≤◌, ◌-◌, length}
use Rattle.dac_script.specs.laws.Common.{Consumes, MAX_INPUT}
use Rattle.dac_script.specs.declared.source.TheConstants.{MAX_READS}
use Rattle.dac_script.proofs.input.read_input.Given as goal

abbrev pub invariant-loop-text : goal.invariant-loop-text
invariant-loop-text g l = record {
  taken : Consumes l.fn.source.left l.source.left l.text.items;
  short : length l.text.items ≤ MAX_INPUT;
  same_reader : l.source.reader ≡ l.fn.source.reader;
}

abbrev pub decreases-loop-text : goal.decreases-loop-text
decreases-loop-text g l = MAX_READS - l.source.reads

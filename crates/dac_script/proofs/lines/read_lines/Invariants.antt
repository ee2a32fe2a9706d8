use Rattle.std.proofs.Common.{length, All}
use Rattle.dac_script.specs.laws.Common.{node_count}
use Rattle.dac_script.proofs.LineByLine.{IsReadTo}
use Rattle.dac_script.proofs.lines.read_lines.Given as goal

abbrev pub invariant-loop-script : goal.invariant-loop-script
invariant-loop-script g l = record {
  so_far : IsReadTo g.L.ReadsLine.spells g.L.ReadsLine.has_fault l.config l.text l.rest l.number l.script.items;
  actors : All (g.L.ReadsLine.has_actors (node_count l.config)) l.script.items;
}

abbrev pub decreases-loop-script : goal.decreases-loop-script
decreases-loop-script g l = length l.rest

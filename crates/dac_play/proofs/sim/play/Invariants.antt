use Rattle.std.proofs.Common.{◌≡◌, length}
use Rattle.dac_play.proofs.Common.{node_count}
use Rattle.dac_play.proofs.Playing.{IsPlayed}
use Rattle.dac_play.proofs.sim.play.Given as goal

abbrev pub invariant-loop-line : goal.invariant-loop-line
invariant-loop-line g l = record {
  played : IsPlayed l.config l.script l.line-index l.world (g.W.Write.contents l.fn.output) (g.W.Write.contents l.output);
  all : length l.world.nodes ≡ node_count l.config;
}

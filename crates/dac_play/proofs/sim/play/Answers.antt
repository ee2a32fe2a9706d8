use Rattle.std.proofs.Common.{sym, ◌∙◌}
use Rattle.dac_play.proofs.Playing.{played_more, written}
use Rattle.dac_play.proofs.ScriptRuns.{plays_runs}
use Rattle.dac_play.proofs.sim.play.Goals as goal

pub returns-clause-runs : goal.returns-clause-runs
returns-clause-runs g c = plays_runs c.args.config.now c.args.script.now

pub loop-line-preserved : goal.loop-line-preserved
loop-line-preserved g c =
    let done = written c.write_all.result _ (sym c.is_err.ensures.value ∙ c.if-is_err.false) c.write_all.ensures.bytes in
    record {
      played = played_more c.args.config.now c.args.script.now c.loop-line.line-index _ c.loop-line.world c.step.new.world c.in_ok-text.text.items _ _ _ c.loop-line-test.true _ c.line-item.is c.in_ok-text.ensures.plays (rw c.deref.ensures.value at done) c.loop-line.invariant.played;
      all = c.in_ok-text.ensures.all;
    }

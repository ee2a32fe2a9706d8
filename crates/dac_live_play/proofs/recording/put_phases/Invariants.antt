use Rattle.std.proofs.Common.{◌≡◌, ◌++◌, take}
use Rattle.dac_live_play.specs.Recordings.{phases_text, PhasesFit, IsLastOf}
use Rattle.dac_live_play.proofs.Phased.{end_of}
use Rattle.dac_live_play.proofs.recording.put_phases.Given as goal

abbrev pub invariant-loop-before : goal.invariant-loop-before
invariant-loop-before l = record {
  text : l.text.items ≡ l.fn.text.items ++ phases_text l.config l.placeholder l.run l.before;
  start : l.start ≡ end_of 0 (take l.before l.run.bounds.items);
  fit : IsLastOf (PhasesFit l.config l.placeholder l.run l.fn.text.items l.pages) l.before l.fit;
}

use Rattle.std.proofs.Common.{◌≡◌, ◌++◌, take}
use Rattle.dac_live_play.proofs.Common.{flat_map}
use Rattle.std.specs.Prelude.{zip}
use Rattle.dac_live_play.specs.Recordings.{told_text}
use Rattle.dac_live_play.proofs.recording.put_events.Given as goal

abbrev pub invariant-loop-i : goal.invariant-loop-i
invariant-loop-i l = l.text.items ≡ l.fn.text.items ++ flat_map (told_text l.config l.placeholder) (take l.i (zip l.events l.seats))

use Rattle.std.proofs.Common.{◌≡◌, ◌++◌, map, take}
use Rattle.dac_live_play.proofs.Common.{flat_map}
use Rattle.dac_live_play.specs.Recordings.{comment}
use Rattle.dac_live_play.proofs.recording.put_comments.Given as goal

abbrev pub invariant-loop-line : goal.invariant-loop-line
invariant-loop-line l = l.text.items ≡ l.fn.text.items ++ flat_map comment (map (λ line. line.now) (take l.line-index l.lines))

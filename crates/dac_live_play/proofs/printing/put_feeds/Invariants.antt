use Rattle.std.proofs.Common.{◌≡◌, ◌++◌, take}
use Rattle.dac_live_play.proofs.Common.{flat_map}
use Rattle.dac_live_play.specs.Texts.{feed_text}
use Rattle.dac_live_play.proofs.printing.put_feeds.Given as goal

abbrev pub invariant-loop-line : goal.invariant-loop-line
invariant-loop-line l = l.text.items ≡ l.fn.text.items ++ flat_map (feed_text l.config) (take l.line-index l.part)

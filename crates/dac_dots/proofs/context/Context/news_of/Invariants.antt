use Rattle.std.proofs.Common.{length}
use Rattle.dac_dots.proofs.NewsLemmas.{AreNewsSoFar}
use Rattle.dac_dots.proofs.context.Context.news_of.Given as goal

abbrev pub invariant-loop-origin : goal.invariant-loop-origin
invariant-loop-origin l = AreNewsSoFar l.self l.initial.theirs l.theirs l.news

abbrev pub decreases-loop-origin : goal.decreases-loop-origin
decreases-loop-origin l = length l.theirs

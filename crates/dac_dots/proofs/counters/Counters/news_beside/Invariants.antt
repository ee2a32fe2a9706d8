use Rattle.std.proofs.Common.{take}
use Rattle.std.specs.Ordering.{nat_cmp}
use Rattle.dac_origins.specs.Keys.{has_key}
use Rattle.dac_dots.specs.News.{AreWithSpan}
use Rattle.dac_dots.specs.Spans.{any_span}
use Rattle.dac_dots.proofs.counters.Counters.news_beside.Given as goal

-- the spans so far, with the other set, are the other set with the news
abbrev pub invariant-loop-span : goal.invariant-loop-span
invariant-loop-span l = AreWithSpan (any_span (take l.span-index l.span-items)) (has_key nat_cmp l.other) l.news

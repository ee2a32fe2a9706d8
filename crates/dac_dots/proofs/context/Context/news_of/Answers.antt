use Rattle.std.proofs.Common.{◌∙◌, ap, subst, sym}
use Rattle.std.specs.Ordering.{nat_cmp}
use Rattle.dac_origins.specs.Keys.{has_key}
use Rattle.dac_dots.specs.Entries.{dots_of}
use Rattle.dac_dots.specs.News.{AreWithSpan}
use Rattle.dac_dots.proofs.NewsLemmas.{AreNewsSoFar, news_all, origin_known, origin_new}
use Rattle.dac_dots.proofs.context.Context.news_of.Goals as goal

pub loop-origin-preserved-in_default-more : goal.loop-origin-preserved-in_default-more
loop-origin-preserved-in_default-more c =
    let e = c.in-Some.field-0.now in
    let own = c.in-Some-get.own.now in
    let with = subst (AreWithSpan (has_key nat_cmp e.1) (has_key nat_cmp own)) c.in_default-more.is c.in-Some-news_beside.ensures in
    origin_known c.args.self.now c.self.inside.rows c.self.view_is c.self.invariant c.entries-theirs.result c.loop-origin.theirs c.next.new.self e c.in-Some.ensures
    own (sym c.in-Some-get.ensures) c.loop-origin.news with c.loop-origin.invariant

pub loop-origin-preserved : goal.loop-origin-preserved
loop-origin-preserved c =
    let e = c.in-Some.field-0.now in
    let own = c.in-Some-get.own.now in
    let with = subst (AreWithSpan (has_key nat_cmp e.1) (has_key nat_cmp own)) c.in-Some-more.is c.in-Some-news_beside.ensures in
    origin_new c.args.self.now c.self.inside.rows c.self.view_is c.self.invariant c.entries-theirs.result c.loop-origin.theirs c.next.new.self e c.in-Some.ensures
    own (sym c.in-Some-get.ensures) c.in-Some-more.span with
    (subst (AreNewsSoFar c.args.self.now c.entries-theirs.result c.loop-origin.theirs) c.in-Nothing.is c.loop-origin.invariant)

pub returns : goal.returns
returns c =
    news_all c.args.self.now c.args.other.now c.entries-theirs.result c.loop-origin.theirs (ap dots_of c.entries-theirs.ensures ∙ c.other.view_is) c.in_default.ensures.0 c.loop-origin.news c.loop-origin.invariant

use Rattle.std.proofs.Common.{◌∙◌, ap, subst, sym}
use Rattle.std.specs.FinSet as set
use Rattle.std.proofs.lemmas.Bool.{false≢true}
use Rattle.dac_origins.specs.Dots.{dot}
use Rattle.dac_origins.specs.laws.Dots.{dots_total}
use Rattle.dac_dots.specs.Entries.{AreRows, dots_of}
use Rattle.dac_dots.specs.laws.EntryRows.{AreIn}
use Rattle.dac_dots.proofs.SetLemmas.{passed_all, passed_more, within_all}
use Rattle.dac_dots.proofs.context.Context.is_within_both.Goals as goal

pub loop-origin-preserved : goal.loop-origin-preserved
loop-origin-preserved c =
    let first = c.args.first.now in
    let second = c.args.second.now in
    let e = c.in-Some.field-0.now in
    passed_more (AreIn (set.union first second)) c.entries-entries.result e c.loop-origin.entries c.next.new.self c.in-Some.ensures c.loop-origin.invariant (λ n there.
    set.contains-union dots_total first second (dot e.0 n) ∙ c.is_within_both.ensures c.if-not-is_within_both.false n there)

pub returns : goal.returns
returns c = λ _.
    let both = set.union c.args.first.now c.args.second.now in
    within_all c.entries-entries.result c.args.self.now (ap dots_of c.entries-entries.ensures ∙ c.self.view_is) (subst AreRows (sym c.entries-entries.ensures) c.self.invariant) both
    (passed_all (AreIn both) c.entries-entries.result c.loop-origin.entries c.in_default.ensures.0 (λ o n e. absurd (false≢true e)) c.loop-origin.invariant)

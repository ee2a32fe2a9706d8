use Rattle.std.proofs.Common.{◌∙◌, ap, refl, subst, sym}
use Rattle.std.specs.Option.{option_copied}
use Rattle.std.proofs.lemmas.Bool.{false≢true}
use Rattle.dac_origins.specs.Dots.{dot}
use Rattle.dac_dots.specs.Entries.{AreRows, dots_of}
use Rattle.dac_dots.specs.laws.EntryRows.{AreIn}
use Rattle.dac_dots.proofs.SetLemmas.{ahead_first, ahead_more, contains_none, contains_there, not_within, passed_all, passed_first, passed_more, passed_order, within_all}
use Rattle.dac_dots.proofs.context.Context.is_subset.Goals as goal

pub loop-origin-preserved : goal.loop-origin-preserved
loop-origin-preserved c =
    let e = c.in-Some.field-0.now in
    let at = sym (ahead_first e c.loop-origin.mine c.next.new.self c.entries-mine.result c.in-Some.ensures c.loop-origin.theirs c.entries-theirs.result c.loop-origin.invariant.ahead) ∙ sym c.in-Some-seek.ensures.found in
    let order = passed_order (AreIn c.args.other.now) c.entries-mine.result e c.loop-origin.mine c.next.new.self c.in-Some.ensures c.loop-origin.invariant.passed in
    record {
      passed = passed_more (AreIn c.args.other.now) c.entries-mine.result e c.loop-origin.mine c.next.new.self c.in-Some.ensures c.loop-origin.invariant.passed (λ n there.
          contains_there c.entries-theirs.result c.args.other.now (ap dots_of c.entries-theirs.ensures ∙ c.other.view_is) (subst AreRows (sym c.entries-theirs.ensures) c.other.invariant) e.0 c.in-Some-seek.others.now at n
          ∙ c.is_subset.ensures.0 c.if-is_subset.true n there);
      in_order = c.in-Some-seek.ensures.in_order;
      ahead = ahead_more e c.loop-origin.mine c.next.new.self c.entries-mine.result c.in-Some.ensures order c.loop-origin.theirs c.seek.new.self c.entries-theirs.result c.in-Some-seek.ensures.same c.loop-origin.invariant.ahead;
    }

pub returns-in_default-seek : goal.returns-in_default-seek
returns-in_default-seek c =
    let e = c.in-Some.field-0.now in
    let at = sym (ahead_first e c.loop-origin.mine c.next.new.self c.entries-mine.result c.in-Some.ensures c.loop-origin.theirs c.entries-theirs.result c.loop-origin.invariant.ahead) ∙ sym c.in-Some-seek.ensures.found in
    let first = passed_first (AreIn c.args.other.now) c.entries-mine.result e c.loop-origin.mine c.next.new.self c.in-Some.ensures c.loop-origin.invariant.passed in (
      λ yes. absurd (false≢true yes),
      λ within. absurd (false≢true (sym c.if-is_subset.false ∙ c.is_subset.ensures.1 (λ n there.
          sym (contains_there c.entries-theirs.result c.args.other.now (ap dots_of c.entries-theirs.ensures ∙ c.other.view_is) (subst AreRows (sym c.entries-theirs.ensures) c.other.invariant) e.0 c.in-Some-seek.others.now at n)
          ∙ within (dot e.0 n) (contains_there c.entries-mine.result c.args.self.now (ap dots_of c.entries-mine.ensures ∙ c.self.view_is) (subst AreRows (sym c.entries-mine.ensures) c.self.invariant) e.0 e.1 first n ∙ there)))),
    )

pub returns-in_default-seek-2 : goal.returns-in_default-seek-2
returns-in_default-seek-2 c =
    let e = c.in-Some.field-0.now in
    let none = sym (ahead_first e c.loop-origin.mine c.next.new.self c.entries-mine.result c.in-Some.ensures c.loop-origin.theirs c.entries-theirs.result c.loop-origin.invariant.ahead) ∙ sym c.seek.ensures.found ∙ ap option_copied c.in_default-seek.is in
    let first = passed_first (AreIn c.args.other.now) c.entries-mine.result e c.loop-origin.mine c.next.new.self c.in-Some.ensures c.loop-origin.invariant.passed in (
      λ yes. absurd (false≢true yes),
      λ within. absurd (not_within c.entries-mine.result c.args.self.now (ap dots_of c.entries-mine.ensures ∙ c.self.view_is) (subst AreRows (sym c.entries-mine.ensures) c.self.invariant) e.0 e.1 first c.args.other.now (contains_none c.entries-theirs.result c.args.other.now (ap dots_of c.entries-theirs.ensures ∙ c.other.view_is) (subst AreRows (sym c.entries-theirs.ensures) c.other.invariant) e.0 none) within),
    )

pub returns : goal.returns
returns c = (
  λ _. within_all c.entries-mine.result c.args.self.now (ap dots_of c.entries-mine.ensures ∙ c.self.view_is) (subst AreRows (sym c.entries-mine.ensures) c.self.invariant) c.args.other.now
      (passed_all (AreIn c.args.other.now) c.entries-mine.result c.loop-origin.mine c.in_default.ensures.0 (λ o n e. absurd (false≢true e)) c.loop-origin.invariant.passed),
  λ _. refl,
)

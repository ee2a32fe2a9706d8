use Rattle.std.proofs.Common.{◌∙◌, ℕ, List, sym, ap, subst}
use Rattle.dac_origins.specs.declared.dot.Origin.{Origin}
use Rattle.dac_dots.specs.Rows.{rows_of}
use Rattle.dac_dots.specs.Entries.{AreRows, dots_of}
use Rattle.dac_dots.specs.laws.EntryRows.{above_all, pushed_kept, pushed_are}
use Rattle.dac_dots.proofs.context.Context.push_row.Goals as goal

pub push-requires : goal.push-requires
push-requires c =
    above_all c.self.inside.rows c.args.self.now c.self.view_is c.self.invariant c.args.origin c.args.upto c.args.further.now _ (c.can_follow.ensures.0 c.if-not-can_follow.false) c.in_ok-counters.ensures.rising c.in_ok-counters.ensures.upto c.in_ok-counters.ensures.further

pub invariant_of-self-2 : goal.invariant_of-self-2
invariant_of-self-2 c =
    subst AreRows (sym c.in_ok-push.ensures.ok)
    (pushed_kept c.self.inside.rows c.args.self.now c.self.view_is c.self.invariant c.args.origin c.args.upto c.args.further.now _ (c.can_follow.ensures.0 c.if-not-can_follow.false) c.in_ok-counters.ensures.rising c.in_ok-counters.ensures.upto c.in_ok-counters.ensures.further)

pub returns-clause-ok : goal.returns-clause-ok
returns-clause-ok c =
    ap (λ (es : List (Origin × List ℕ)). rows_of (dots_of es)) c.in_ok-push.ensures.ok
    ∙ pushed_are c.self.inside.rows c.args.self.now c.self.view_is c.self.invariant c.args.origin c.args.upto c.args.further.now _ (c.can_follow.ensures.0 c.if-not-can_follow.false) c.in_ok-counters.ensures.rising c.in_ok-counters.ensures.upto c.in_ok-counters.ensures.further

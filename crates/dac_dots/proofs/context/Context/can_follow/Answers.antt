use Rattle.std.proofs.Common.{◌∙◌, ◌+◌, List, sym, subst}
use Rattle.std.proofs.lemmas.Bool.{false≢true}
use Rattle.dac_dots.specs.Rows.{Row, EndBefore}
use Rattle.dac_dots.specs.laws.EntryRows.{rows_are, ends_before, above_from}
use Rattle.dac_dots.proofs.RowLemmas.{rises_both, some_counters}
use Rattle.dac_dots.proofs.context.Context.can_follow.Goals as goal

pub returns-then-not-ends_below : goal.returns-then-not-ends_below
returns-then-not-ends_below c =
    let are = rows_are c.self.inside.rows c.args.self.now c.self.view_is c.self.invariant in
    (λ e. absurd (false≢true e), λ can. absurd (false≢true (sym c.if-not-ends_below.true ∙ c.ends_below.ensures ∙ above_from c.self.inside.rows c.args.origin (subst (λ (rows : List Row). EndBefore rows c.args.origin) are can.above))))

pub returns : goal.returns
returns c =
    let are = rows_are c.self.inside.rows c.args.self.now c.self.view_is c.self.invariant in
    let rises = rises_both (c.args.upto + 1) c.args.further.now c.ascends_from.result c.ascends_from.ensures in (
      λ yes. record {
        above = subst (λ (rows : List Row). EndBefore rows c.args.origin) (sym are) (ends_before c.self.inside.rows c.args.origin (sym c.ends_below.ensures ∙ c.if-not-ends_below.false));
        rising = rises.0 yes;
        some = some_counters c.args.origin c.args.upto c.args.further.now c.has_no_dots.result c.if-has_no_dots.false c.has_no_dots.ensures.1;
      },
      λ can. rises.1 can.rising,
    )

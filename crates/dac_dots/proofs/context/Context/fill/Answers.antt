use Rattle.std.proofs.Common.{◌∙◌, ap, sym}
use Rattle.dac_dots.specs.DotFilters.{may_have}
use Rattle.dac_dots.specs.Entries.{dots_of}
use Rattle.dac_dots.proofs.SetLemmas.{contains_any, filled_all}
use Rattle.dac_dots.proofs.context.Context.fill.Goals as goal

pub returns : goal.returns
returns c q e =
    filled_all c.loop-origin.entries c.entries-entries.result c.in_default.ensures.0 (may_have c.loop-origin.filter.slots) c.loop-origin.invariant q
    (sym (contains_any c.entries-entries.result c.args.self.now (ap dots_of c.entries-entries.ensures ∙ c.self.view_is) q) ∙ e)

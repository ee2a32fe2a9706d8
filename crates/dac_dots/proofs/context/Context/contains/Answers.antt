use Rattle.std.proofs.Common.{◌∙◌, sym}
use Rattle.dac_dots.proofs.SetLemmas.{contains_none, contains_there}
use Rattle.dac_dots.proofs.context.Context.contains.Goals as goal

pub returns-in-Some : goal.returns-in-Some
returns-in-Some c = c.contains.ensures ∙ sym (contains_there c.self.inside.rows c.args.self.now c.self.view_is c.self.invariant c.args.dot.origin c.in-Some.counters.now (sym c.in-Some.ensures) c.args.dot.n)

pub returns-in-None : goal.returns-in-None
returns-in-None c = sym (contains_none c.self.inside.rows c.args.self.now c.self.view_is c.self.invariant c.args.dot.origin (sym c.in-None.ensures) c.args.dot.n)
